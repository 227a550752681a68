use Rattle.cell_merge.specs.Sorts.{truth, set_of}
use Rattle.function_tests.specs.Shapes.{entry_sort}
use Rattle.cell_merge.proofs.SortLaws.{OfSort-later}
use Rattle.function_tests.proofs.building.boxed.Goals as goal

pub returns-clause-sort : goal.returns-clause-sort
returns-clause-sort c = c.in_ok-id.ensures.sort truth (set_of entry_sort) (OfSort-later _ _ truth _ c.in_ok-x.ensures.sort c.in_ok-y.ensures.grows) c.in_ok-y.ensures.sort
