use Rattle.std.proofs.Common.{refl}
use Rattle.cell_merge.specs.Sorts.{number}
use Rattle.row_tests.proofs.sequence_calls.of_sequence_and.Goals as goal

pub at_place-requires : goal.at_place-requires
at_place-requires c = record {
  sort = number;
  sequence = c.if-not-is_sequence.ensures refl;
  index = c.if-not-is_number.ensures refl;
}
