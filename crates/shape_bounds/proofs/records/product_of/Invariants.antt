use Rattle.std.proofs.Common.{◌≡◌, map, drop}
use Rattle.kernel_shapes.specs.Codes.{mean}
use Rattle.kernel_shapes.specs.Rows.{product_of}
use Rattle.shape_bounds.specs.Kept.{kept}
use Rattle.shape_bounds.proofs.records.product_of.Given as goal

abbrev pub invariant-loop-i : goal.invariant-loop-i
invariant-loop-i l = l.number ≡ kept (product_of (drop l.i (map mean l.sets)))
