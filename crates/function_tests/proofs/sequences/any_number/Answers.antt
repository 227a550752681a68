use Rattle.function_tests.proofs.Counted.{word-below}
use Rattle.function_tests.proofs.sequences.any_number.Goals as goal

pub word-requires-clause-named : goal.word-requires-clause-named
word-requires-clause-named c = word-below _ _ (rw c.from_vec.ensures c.in_ok-lits.ensures)
