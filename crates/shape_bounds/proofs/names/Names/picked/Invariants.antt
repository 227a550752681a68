use Rattle.std.proofs.Common.{take}
use Rattle.shape_bounds.specs.inner.Walks.{SizesPicked, sized_sets}
use Rattle.shape_bounds.proofs.names.Names.picked.Given as goal

abbrev pub invariant-loop-i : goal.invariant-loop-i
invariant-loop-i l = SizesPicked l.fn.self l.self (sized_sets l.fn.self.width (take l.i l.sets)) l.shapes.items
