use Rattle.cell_merge.specs.Sorts.{number, truth}
use Rattle.cell_merge.proofs.SortLaws.{OfSort-later}
use Rattle.function_tests.proofs.building.pair.Goals as goal

pub returns-clause-sort : goal.returns-clause-sort
returns-clause-sort c = c.in_ok-id.ensures.sort number truth (OfSort-later _ _ number _ c.in_ok-x.ensures.sort c.in_ok-y.ensures.grows) c.in_ok-y.ensures.sort
