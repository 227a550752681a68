use Rattle.cell_merge.specs.Sorts.{number, sequence_of}
use Rattle.cell_merge.proofs.SortLaws.{OfSort-later}
use Rattle.function_tests.proofs.Shaped.{one-type}
use Rattle.function_tests.proofs.equalities.one_of.Goals as goal

pub choose_cell-requires-clause-types : goal.choose_cell-requires-clause-types
choose_cell-requires-clause-types c = one-type _ (sequence_of number) _ _ (OfSort-later _ _ (sequence_of number) _ c.in_ok-x.ensures.sort c.in_ok-y.ensures.grows) c.in_ok-y.ensures.sort

pub returns-clause-sort : goal.returns-clause-sort
returns-clause-sort c =
    c.in_ok-id.ensures.chosen.sort (sequence_of number) (OfSort-later _ _ (sequence_of number) _ c.in_ok-x.ensures.sort c.in_ok-y.ensures.grows) c.in_ok-y.ensures.sort
