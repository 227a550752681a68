use Rattle.std.proofs.Common.{◌≡◌, take}
use Rattle.shape_bounds.specs.inner.Walks.{some_shapes}
use Rattle.shape_bounds.proofs.levels.copy_named.Given as goal

abbrev pub invariant-loop-i : goal.invariant-loop-i
invariant-loop-i l = some_shapes l.copies.items ≡ some_shapes (take l.i l.names)
