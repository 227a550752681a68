use Rattle.cell_merge.specs.Sorts.{number}
use Rattle.cell_merge.proofs.SortLaws.{OfSort-later}
use Rattle.cell_tests.proofs.equality.numbers_agree.Goals as goal

pub same-requires : goal.same-requires
same-requires c = record {
  sort = number;
  left = OfSort-later _ _ number _ c.in_ok-x.ensures.sort c.in_ok-y.ensures.grows;
  right = c.in_ok-y.ensures.sort;
}
