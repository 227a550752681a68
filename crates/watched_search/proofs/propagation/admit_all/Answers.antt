use Rattle.watched_search.proofs.WalkLemmas.{IsDriven-trans}
use Rattle.watched_search.proofs.propagation.admit_all.Goals as goal

pub returns-in-Some-clause-driven : goal.returns-in-Some-clause-driven
returns-in-Some-clause-driven c = record {
  driven = IsDriven-trans _ _ _ _ c.loop-progress.invariant.driven c.in-Some.ensures.driven.driven;
  kept = c.in-Some.ensures.driven.kept;
}

pub loop-progress-preserved : goal.loop-progress-preserved
loop-progress-preserved c = record {
  driven = IsDriven-trans _ _ _ _ c.loop-progress.invariant.driven c.in_default.ensures.driven.driven;
  kept = c.in_default.ensures.driven.kept;
}
