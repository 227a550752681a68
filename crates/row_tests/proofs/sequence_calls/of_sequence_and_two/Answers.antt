use Rattle.std.proofs.Common.{refl}
use Rattle.cell_merge.specs.Sorts.{number}
use Rattle.row_tests.proofs.sequence_calls.of_sequence_and_two.Goals as goal

pub update_place-requires : goal.update_place-requires
update_place-requires c = record {
  sort = number;
  sequence = c.if-not-is_sequence.ensures refl;
  index = c.if-not-is_number.ensures refl;
  item = c.if-not-is_number-2.ensures refl;
}

pub slice-requires : goal.slice-requires
slice-requires c = record {
  sort = number;
  sequence = c.if-not-is_sequence.ensures refl;
  first = c.if-not-is_number.ensures refl;
  last = c.if-not-is_number-2.ensures refl;
}
