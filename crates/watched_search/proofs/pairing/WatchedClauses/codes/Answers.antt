use Rattle.watched_search.proofs.pairing.WatchedClauses.codes.Goals as goal

pub returns-clause-below : goal.returns-clause-below
returns-clause-below c = rw (← c.self.view_is) (c.self.invariant.0.names c.args.c _ (rw (← c.self.view_is) at c.requires))
