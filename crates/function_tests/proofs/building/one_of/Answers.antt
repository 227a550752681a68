use Rattle.cell_merge.specs.Sorts.{number}
use Rattle.cell_merge.proofs.SortLaws.{OfSort-later}
use Rattle.function_tests.proofs.building.one_of.Goals as goal

pub choose_cell-requires-clause-types : goal.choose_cell-requires-clause-types
choose_cell-requires-clause-types c = record {
  sort = number;
  left = OfSort-later _ _ number _ c.in_ok-x.ensures.sort c.in_ok-y.ensures.grows;
  right = c.in_ok-y.ensures.sort;
}

pub returns-clause-sort : goal.returns-clause-sort
returns-clause-sort c =
    c.in_ok-cell.ensures.chosen.sort number (OfSort-later _ _ number _ c.in_ok-x.ensures.sort c.in_ok-y.ensures.grows) c.in_ok-y.ensures.sort
