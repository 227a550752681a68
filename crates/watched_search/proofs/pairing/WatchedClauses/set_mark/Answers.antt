use Rattle.watched_search.proofs.pairing.WatchedClauses.set_mark.Goals as goal

pub invariant_of-self : goal.invariant_of-self
invariant_of-self c = rw c.set_mark.ensures c.self.invariant
