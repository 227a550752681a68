use Rattle.std.proofs.Common.{◌<◌, ◌∙◌, length, arith}
use Rattle.sat_formula.proofs.Extension.{Grows-trans}
use Rattle.set_rewriter.proofs.Keeping.{keeps-passed, keeps-push}
use Rattle.set_rewriter.proofs.filters.keep_edges.Goals as goal

pub loop-i-preserved-in-Some-false : goal.loop-i-preserved-in-Some-false
loop-i-preserved-in-Some-false c =
    let i = c.loop-i.invariant in
    let lt : c.loop-i.i < length c.args.edges.now = omega arith in
    let le : c.loop-i.i < length c.args.keep.now = omega arith in
    let r = c.in_ok-both.ensures in
    record {
      grows = Grows-trans _ _ _ i.grows r.grows;
      keeps = keeps-passed _ _ c.args.edges.now c.args.keep.now c.loop-i.i _ _ _ _ lt le i.keeps r.grows r.value (λ a s. c.in-Some-false.ensures.value a s ∙ c.in-Some-false.field-0-test);
    }

pub loop-i-preserved : goal.loop-i-preserved
loop-i-preserved c =
    let i = c.loop-i.invariant in
    let lt : c.loop-i.i < length c.args.edges.now = omega arith in
    let le : c.loop-i.i < length c.args.keep.now = omega arith in
    let r = c.in_ok-both.ensures in
    record {
      grows = Grows-trans _ _ _ i.grows r.grows;
      keeps = keeps-push _ _ c.args.edges.now c.args.keep.now c.loop-i.i _ _ _ _ lt le i.keeps r.grows r.value _ c.in_ok-push.ensures.items;
    }
