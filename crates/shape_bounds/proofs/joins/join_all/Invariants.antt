use Rattle.std.proofs.Common.{◌≡◌, map, drop}
use Rattle.kernel_shapes.specs.Codes.{mean}
use Rattle.kernel_shapes.specs.Shape.{join_all}
use Rattle.shape_bounds.proofs.joins.join_all.Given as goal

abbrev pub invariant-loop-i : goal.invariant-loop-i
invariant-loop-i l = mean l.whole ≡ join_all (drop l.i (map mean l.shapes))
