use Rattle.refutation_checker.proofs.TrailLemmas.{Left-more}
use Rattle.refutation_checker.proofs.trail.take_back.Goals as goal

pub loop-l-preserved : goal.loop-l-preserved
loop-l-preserved c = Left-more _ _ _ _ _ c.loop-l-test.true c.unset.ensures c.loop-l.invariant
