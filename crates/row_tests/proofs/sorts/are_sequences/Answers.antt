use Rattle.std.proofs.Common.{refl}
use Rattle.cell_merge.specs.Sorts.{number, sequence_of}
use Rattle.row_tests.proofs.sorts.are_sequences.Goals as goal

pub returns-then-is_sequence : goal.returns-then-is_sequence
returns-then-is_sequence c = λ t. record {
  sort = sequence_of number;
  left = c.if-is_sequence.ensures refl;
  right = c.is_sequence-then-is_sequence.ensures t;
}
