use Rattle.cell_merge.specs.Sorts.{truth}
use Rattle.function_tests.proofs.Counted.{word-below}
use Rattle.function_tests.proofs.sequences.truth_sequence.Goals as goal

pub counted-requires-clause-below : goal.counted-requires-clause-below
counted-requires-clause-below c = word-below _ _ (rw c.as_slice.ensures.value c.in_ok-lits.ensures)

pub returns-clause-sort : goal.returns-clause-sort
returns-clause-sort c = c.in_ok-id.ensures.sort truth c.in_ok-places.ensures.sorts
