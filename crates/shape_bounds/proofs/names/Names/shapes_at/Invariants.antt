use Rattle.std.proofs.Common.{take}
use Rattle.shape_bounds.specs.inner.Stacks.{AreShapes}
use Rattle.shape_bounds.proofs.names.Names.shapes_at.Given as goal

abbrev pub invariant-loop-i : goal.invariant-loop-i
invariant-loop-i l = AreShapes l.fn.self l.self l.k (take l.i l.stacks) l.shapes.items
