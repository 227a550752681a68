use Rattle.cell_merge.specs.Sorts.{number}
use Rattle.function_tests.proofs.sequence_calls.of_one.Goals as goal

pub length-requires : goal.length-requires
length-requires c = record { sort = number; is = c.in_ok-s.ensures.sort }

pub rest-requires : goal.rest-requires
rest-requires c = record { sort = number; is = c.in_ok-s.ensures.sort }
