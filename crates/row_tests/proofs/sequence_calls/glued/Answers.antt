use Rattle.std.proofs.Common.{refl}
use Rattle.cell_merge.specs.Sorts.{number}
use Rattle.row_tests.proofs.sequence_calls.glued.Goals as goal

pub glue-requires : goal.glue-requires
glue-requires c = record {
  sort = number;
  left = c.if-not-is_sequence.ensures refl;
  right = c.if-not-is_sequence-2.ensures refl;
}
