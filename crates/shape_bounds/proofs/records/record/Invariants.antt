use Rattle.std.proofs.Common.{◌≡◌, map, drop}
use Rattle.kernel_shapes.specs.Codes.{mean}
use Rattle.kernel_shapes.specs.Rows.{in_order}
use Rattle.shape_bounds.specs.inner.Table.{fields_of}
use Rattle.shape_bounds.proofs.records.record.Given as goal

abbrev pub invariant-loop-i : goal.invariant-loop-i
invariant-loop-i l = fields_of l.fields.items ≡ in_order (drop l.i l.names) (drop l.i (map mean l.values))
