use Rattle.std.proofs.Common.{map, take}
use Rattle.kernel_shapes.specs.Codes.{mean}
use Rattle.kernel_shapes.specs.Shape.{inside}
use Rattle.shape_bounds.specs.inner.Stacks.{AreAlong}
use Rattle.shape_bounds.proofs.names.Names.along.Given as goal

abbrev pub invariant-loop-i : goal.invariant-loop-i
invariant-loop-i l = AreAlong l.fn.self l.self l.stack l.numbers (map mean (take l.i l.values)) (inside (mean l.list)) l.stacks.items
