use Rattle.std.proofs.Common.{◌≡◌, replicate, []}
use Rattle.plain_solver.proofs.occurrences.Occurrences.new.Given as goal

abbrev pub invariant-loop : goal.invariant-loop
invariant-loop l = l.lists.items ≡ replicate l.counter []
