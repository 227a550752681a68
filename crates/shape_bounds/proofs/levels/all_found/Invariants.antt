use Rattle.std.proofs.Common.{◌≡◌, map, take}
use Rattle.kernel_shapes.specs.Codes.{mean}
use Rattle.kernel_shapes.specs.Sized.{found}
use Rattle.shape_bounds.specs.inner.Walks.{some_shapes}
use Rattle.shape_bounds.proofs.levels.all_found.Given as goal

abbrev pub invariant-loop-i : goal.invariant-loop-i
invariant-loop-i l = map mean l.shapes.items ≡ map found (some_shapes (take l.i l.names))
