use Rattle.std.proofs.Common.{◌≡◌, map, take}
use Rattle.kernel_shapes.specs.Codes.{mean}
use Rattle.kernel_shapes.specs.Levels.{kept_constants}
use Rattle.shape_bounds.specs.inner.Walks.{some_shapes}
use Rattle.shape_bounds.proofs.starting.constants_each.Given as goal

abbrev pub invariant-loop-i : goal.invariant-loop-i
invariant-loop-i l = some_shapes l.names.items ≡ kept_constants (take l.i l.fixed) (map mean (take l.i l.shapes))
