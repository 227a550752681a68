use Rattle.cell_merge.specs.Sorts.{number, set_of}
use Rattle.cell_merge.proofs.SortLaws.{OfSort-later}
use Rattle.cell_tests.proofs.equality.sets_agree.Goals as goal

pub same-requires : goal.same-requires
same-requires c = record {
  sort = set_of number;
  left = OfSort-later _ _ (set_of number) _ c.in_ok-x.ensures.sort c.in_ok-y.ensures.grows;
  right = c.in_ok-y.ensures.sort;
}

pub same-requires-2 : goal.same-requires-2
same-requires-2 c = record {
  sort = set_of number;
  left = OfSort-later _ _ (set_of number) _ c.in_ok-y.ensures.sort c.in_ok-there.ensures.grows;
  right = OfSort-later _ _ (set_of number) _ (OfSort-later _ _ (set_of number) _ c.in_ok-x.ensures.sort c.in_ok-y.ensures.grows) c.in_ok-there.ensures.grows;
}
