use Rattle.cell_merge.proofs.SortLaws.{OfSort-later}
use Rattle.function_tests.specs.Shapes.{entry_sort}
use Rattle.function_tests.proofs.building.entries.Goals as goal

pub two_edges-requires-clause-x_sort : goal.two_edges-requires-clause-x_sort
two_edges-requires-clause-x_sort c = OfSort-later _ _ entry_sort _ c.in_ok-x.ensures.sort c.in_ok-y.ensures.grows
