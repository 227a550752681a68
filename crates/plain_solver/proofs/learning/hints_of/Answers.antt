use Rattle.watched_search.proofs.TrailLemmas.{no_entry}
use Rattle.cdcl_solver.proofs.ChainLemmas.{reasons-some, reasons-none}
use Rattle.plain_solver.proofs.learning.hints_of.Goals as goal
use Rattle.plain_solver.proofs.learning.hints_of.Goals.{in-Some+in_ok-push, in_default}

pub loop-e-preserved : goal.loop-e-preserved
loop-e-preserved c = elim c.match-e.branch [
  | in-Some+in_ok-push w ↦ rw (w.ids-is, w.in_ok-push.ensures.items, c.loop-e.invariant) (reasons-some c.args.entries.now c.loop-e.e-index no_entry w.in-Some.c c.loop-e-test.true w.in-Some.is)
  | in_default w ↦ rw (w.ids-is, c.loop-e.invariant) (reasons-none c.args.entries.now c.loop-e.e-index no_entry c.loop-e-test.true w.in_default.is)
]
