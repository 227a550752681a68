use Rattle.std.proofs.Common.{◌≡◌, drop}
use Rattle.kernel_reduction.specs.Making.{field_type}
use Rattle.kera_reducer.proofs.part_types.field_type.Given as goal

abbrev pub invariant-loop-field : goal.invariant-loop-field
invariant-loop-field l = field_type (drop l.field-index l.fields) l.name ≡ field_type l.fields l.name
