use Rattle.std.proofs.Common.{take}
use Rattle.plain_solver.specs.inner.Occurrences.{IsIndex}
use Rattle.plain_solver.proofs.searching.indexed.Given as goal

abbrev pub invariant-loop-k : goal.invariant-loop-k
invariant-loop-k l = IsIndex l.room l.occurrences (take l.k l.clauses)
