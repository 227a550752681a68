use Rattle.std.proofs.Common.{◌≡◌, ◌++◌, drop}
use Rattle.tla_evaluator.proofs.Words.{with_each}
use Rattle.tla_evaluator.proofs.sets.with_each.Given as goal

abbrev pub invariant-loop-x : goal.invariant-loop-x
invariant-loop-x l = l.all.items ++ with_each (drop l.x-index l.set) l.lists ≡ with_each l.set l.lists
