use Rattle.std.proofs.Common.{refl}
use Rattle.cell_merge.specs.Sorts.{number}
use Rattle.row_tests.proofs.sequence_calls.of_sequence.Goals as goal

pub length-requires : goal.length-requires
length-requires c = record { sort = number; is = c.if-not-is_sequence.ensures refl }

pub seq_domain-requires : goal.seq_domain-requires
seq_domain-requires c = record { sort = number; is = c.if-not-is_sequence.ensures refl }

pub rest-requires : goal.rest-requires
rest-requires c = record { sort = number; is = c.if-not-is_sequence.ensures refl }
