use Rattle.std.proofs.Common.{◌<◌, None}
use Rattle.refutation_checker.specs.Follows.{known}
use Rattle.plain_solver.specs.inner.Occurrences.{IsLooked}
use Rattle.plain_solver.proofs.propagation.look_at_all.Given as goal

abbrev pub invariant-loop-k : goal.invariant-loop-k
invariant-loop-k l = IsLooked (known l.clauses l.steps) l.initial.trail l.trail (λ j. j < l.k) None
