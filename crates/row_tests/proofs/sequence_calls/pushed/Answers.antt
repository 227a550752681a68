use Rattle.std.proofs.Common.{refl}
use Rattle.cell_merge.specs.Sorts.{number}
use Rattle.row_tests.proofs.sequence_calls.pushed.Goals as goal

pub push-requires : goal.push-requires
push-requires c = record {
  sort = number;
  sequence = c.if-not-is_sequence.ensures refl;
  item = c.if-not-is_number.ensures refl;
}
