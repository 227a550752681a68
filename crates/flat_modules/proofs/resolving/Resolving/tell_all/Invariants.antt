use Rattle.std.proofs.Common.{length, reverse}
use Rattle.flat_modules.specs.inner.Learning.{Remains}
use Rattle.flat_modules.proofs.resolving.Resolving.tell_all.Given as goal

abbrev pub invariant-loop-misuse : goal.invariant-loop-misuse
invariant-loop-misuse l = Remains l.initial.self l.self (reverse l.initial.rest.items) (reverse l.rest.items)

abbrev pub decreases-loop-misuse : goal.decreases-loop-misuse
decreases-loop-misuse l = length l.rest.items
