use Rattle.decision_queue.proofs.Links.{v_bound, without_absent}
use Rattle.decision_queue.proofs.queue.DecisionQueue.bump.Goals as goal

pub relink-requires-clause-below : goal.relink-requires-clause-below
relink-requires-clause-below c =
    rw (c.unlink.ensures, ← c.self.view_is) (v_bound _ _ _ _ _ c.self.invariant (rw (← c.self.view_is) at c.requires))

pub relink-requires-clause-absent : goal.relink-requires-clause-absent
relink-requires-clause-absent c = rw c.unlink.ensures (without_absent c.args.v c.args.self.now.items)
