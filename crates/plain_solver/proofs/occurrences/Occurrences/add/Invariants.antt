use Rattle.std.proofs.Common.{take}
use Rattle.plain_solver.specs.inner.Occurrences.{Adds}
use Rattle.plain_solver.proofs.occurrences.Occurrences.add.Given as goal

abbrev pub invariant-loop-l : goal.invariant-loop-l
invariant-loop-l l = Adds l.initial.self-inside.lists.items l.self-inside.lists.items (take l.l-index l.lits) l.place
