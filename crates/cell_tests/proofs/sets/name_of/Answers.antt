use Rattle.cell_merge.specs.Sorts.{name}
use Rattle.cell_merge.proofs.SortLaws.{OfSort-later}
use Rattle.cell_tests.proofs.sets.name_of.Goals as goal

pub choose_cell-requires-clause-types : goal.choose_cell-requires-clause-types
choose_cell-requires-clause-types c = record {
  sort = name;
  left = OfSort-later _ _ name _ c.in_ok-x.ensures.sort c.in_ok-y.ensures.grows;
  right = c.in_ok-y.ensures.sort;
}

pub returns-clause-sort : goal.returns-clause-sort
returns-clause-sort c =
    c.in_ok-cell.ensures.chosen.sort name (OfSort-later _ _ name _ c.in_ok-x.ensures.sort c.in_ok-y.ensures.grows) c.in_ok-y.ensures.sort
