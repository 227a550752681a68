use Rattle.std.proofs.Common.{◌∙◌}
use Rattle.sat_formula.proofs.Extension.{Grows-trans}
use Rattle.set_rewriter.proofs.Gathering.{guards-passed, guards-push}
use Rattle.set_rewriter.proofs.unions.guard_edges.Goals as goal

pub loop-m-preserved-in-Some-false : goal.loop-m-preserved-in-Some-false
loop-m-preserved-in-Some-false c =
    let i = c.loop-m.invariant in
    let r = c.in_ok-both.ensures in
    record {
      grows = Grows-trans _ _ _ i.grows r.grows;
      guards = guards-passed _ _ c.args.l c.args.edges.now c.loop-m.m-index _ _ _ _ c.loop-m-test.true i.guards r.grows r.value (λ a s. c.in-Some-false.ensures.value a s ∙ c.in-Some-false.field-0-test);
    }

pub loop-m-preserved : goal.loop-m-preserved
loop-m-preserved c =
    let i = c.loop-m.invariant in
    let r = c.in_ok-both.ensures in
    record {
      grows = Grows-trans _ _ _ i.grows r.grows;
      guards = guards-push _ _ c.args.l c.args.edges.now c.loop-m.m-index _ _ _ _ c.loop-m-test.true i.guards r.grows r.value _ c.in_ok-push.ensures.items;
    }
