use Rattle.std.proofs.lemmas.List.{get_or_default}
use Rattle.sat_formula.proofs.Extension.{Grows-trans}
use Rattle.cell_merge.proofs.Unions.{parted-found, parted-other, named-at}
use Rattle.cell_merge.proofs.merging.part.Goals as goal

pub loop-l-preserved-then-alike : goal.loop-l-preserved-then-alike
loop-l-preserved-then-alike c =
    let i = c.loop-l.invariant in
    record {
      grows = Grows-trans _ _ _ i.grows c.in_ok-found.ensures.grows;
      parted = parted-found _ _ _ c.args.edges.now _ _ _ _ c.loop-l-test.true (get_or_default _ _ _ _ c.loop-l-test.true) i.parted _ _ c.in_ok-found.ensures.grows c.in_ok-found.ensures.value (c.alike.ensures c.if-alike.true);
    }

pub loop-l-preserved : goal.loop-l-preserved
loop-l-preserved c =
    let i = c.loop-l.invariant in
    record {
      grows = i.grows;
      parted = parted-other _ _ _ c.args.edges.now _ _ _ _ c.loop-l-test.true (get_or_default _ _ _ _ c.loop-l-test.true) i.parted _ c.in_ok-push.ensures.items
          (named-at _ _ _ _ _ c.requires.named c.loop-l-test.true i.grows.vars);
    }
