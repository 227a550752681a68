use Rattle.std.proofs.Common.{map}
use Rattle.shape_bounds.proofs.TypeShapes.{AreFirst}
use Rattle.shape_bounds.proofs.type_shapes.+types.Given as goal

abbrev pub invariant-type_shapes-loop-i : goal.invariant-type_shapes-loop-i
invariant-type_shapes-loop-i l = AreFirst l.bounds l.ts l.i l.shapes.items

abbrev pub invariant-field_shapes-loop-i : goal.invariant-field_shapes-loop-i
invariant-field_shapes-loop-i l = AreFirst l.bounds (map (λ f. f.1) l.fields) l.i l.shapes.items
