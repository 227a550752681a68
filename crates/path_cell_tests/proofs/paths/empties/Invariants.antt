use Rattle.std.proofs.Common.{◌≡◌, replicate}
use Rattle.kernel_shapes.specs.declared.bounds.Shape.TheVariants as shape
use Rattle.path_cell_tests.proofs.paths.empties.Given as goal

abbrev pub invariant-loop-i : goal.invariant-loop-i
invariant-loop-i l = l.shapes.items ≡ replicate l._i shape.Empty
