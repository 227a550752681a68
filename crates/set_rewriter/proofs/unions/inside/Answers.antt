use Rattle.sat_formula.proofs.Extension.{Grows-trans}
use Rattle.set_rewriter.proofs.Gathering.{inside-more}
use Rattle.set_rewriter.proofs.unions.inside.Goals as goal

pub loop-l-preserved : goal.loop-l-preserved
loop-l-preserved c =
    let i = c.loop-l.invariant in
    record {
      grows = Grows-trans _ _ _ i.grows c.in_ok-guard_set.ensures.grows;
      inside = inside-more _ _ _ c.args.sets.now c.loop-l.l-index _ _ _ c.loop-l-test.true i.inside c.in_ok-guard_set.ensures.grows c.in_ok-guard_set.ensures.guards;
    }
