use Rattle.std.proofs.Common.{◌≡◌, drop}
use Rattle.typed_cells.specs.FieldOrder.{in_order}
use Rattle.typed_cells.proofs.composites.sorted_fields.Given as goal

abbrev pub invariant-loop-i : goal.invariant-loop-i
invariant-loop-i l = l.fields.items ≡ in_order (drop l.i l.names) (drop l.i l.cells)
