use Rattle.std.proofs.Common.{◌≡◌, take}
use Rattle.kernel_trees.proofs.copy.copy_sets.Given as goal

abbrev pub invariant-loop-number : goal.invariant-loop-number
invariant-loop-number l = l.items.items ≡ take l.number-index l.number-items
