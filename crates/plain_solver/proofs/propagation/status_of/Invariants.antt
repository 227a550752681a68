use Rattle.std.proofs.Common.{take}
use Rattle.refutation_checker.proofs.StatusLemmas.{Found}
use Rattle.watched_search.specs.Trail.{lits_of}
use Rattle.plain_solver.proofs.propagation.status_of.Given as goal

abbrev pub invariant-loop-l : goal.invariant-loop-l
invariant-loop-l l = Found (lits_of l.trail.entries) (take l.l-index l.clause) l.found
