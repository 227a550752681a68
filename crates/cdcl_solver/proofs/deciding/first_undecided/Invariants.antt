use Rattle.cdcl_solver.specs.inner.Deciding.{AreDecided}
use Rattle.cdcl_solver.proofs.deciding.first_undecided.Given as goal

abbrev pub invariant-loop-v : goal.invariant-loop-v
invariant-loop-v l = AreDecided l.search.entries l.v
