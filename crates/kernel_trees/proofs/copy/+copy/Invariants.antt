use Rattle.std.proofs.Common.{◌≡◌, take}
use Rattle.kernel_trees.proofs.copy.+copy.Given as goal

abbrev pub invariant-copy_kers-loop-k : goal.invariant-copy_kers-loop-k
invariant-copy_kers-loop-k l = l.items.items ≡ take l.k-index l.ks
