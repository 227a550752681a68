use Rattle.shape_bounds.proofs.TypedLevel.{AreTyped}
use Rattle.shape_bounds.proofs.typed_start.typed_names.Given as goal

abbrev pub invariant-loop-i : goal.invariant-loop-i
invariant-loop-i l = AreTyped l.bounds l.fixed l.constants l.types l.i l.shapes.items
