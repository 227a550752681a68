use Rattle.std.proofs.Common.{◌≡◌, take}
use Rattle.shape_bounds.proofs.stacks.copy_bound.Given as goal

abbrev pub invariant-loop-i : goal.invariant-loop-i
invariant-loop-i l = l.copies.items ≡ take l.i l.bound
