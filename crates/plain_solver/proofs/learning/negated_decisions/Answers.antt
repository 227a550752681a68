use Rattle.watched_search.proofs.TrailLemmas.{no_entry}
use Rattle.cdcl_solver.proofs.ChainLemmas.{negated-next, negated-same}
use Rattle.plain_solver.proofs.learning.negated_decisions.Goals as goal
use Rattle.plain_solver.proofs.learning.negated_decisions.Goals.{then-is_none+in_ok-push, else-is_none}

pub loop-e-preserved : goal.loop-e-preserved
loop-e-preserved c = elim c.if-is_none.branch [
  | then-is_none+in_ok-push w ↦
      rw (w.lits-is, w.in_ok-push.ensures.items, w.negated.ensures, c.loop-e.invariant)
      (negated-next c.args.entries.now c.loop-e.e-index no_entry c.loop-e-test.true w.if-is_none.ensures)
  | else-is_none w ↦ rw (w.lits-is, c.loop-e.invariant) (negated-same c.args.entries.now c.loop-e.e-index no_entry c.loop-e-test.true w.if-is_none.ensures)
]
