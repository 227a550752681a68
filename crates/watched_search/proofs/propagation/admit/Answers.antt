use Rattle.watched_search.proofs.SettleLemmas.{admitted}
use Rattle.watched_search.proofs.propagation.admit.Goals as goal

pub returns-in_default-clause-driven : goal.returns-in_default-clause-driven
returns-in_default-clause-driven c = record {
  driven = c.in_default.ensures.advances.driven;
  kept = c.in_default.ensures.advances.kept _ c.requires.kept;
}

pub returns-clause-driven : goal.returns-clause-driven
returns-clause-driven c =
    admitted _ _ _ _ _ _ c.requires.next c.in-Some.ensures.advances c.settle_clause-head.ensures.lowered c.settle_clause-head.ensures.settled c.requires.kept
