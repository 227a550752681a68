use Rattle.cell_merge.specs.Sorts.{number, set_of}
use Rattle.cell_merge.proofs.SortLaws.{OfSort-later}
use Rattle.cell_tests.proofs.sizes.chosen_often.Goals as goal

pub union-requires : goal.union-requires
union-requires c = record {
  sort = number;
  left = OfSort-later _ _ (set_of number) _ c.in_ok-x.ensures.sort c.in_ok-one.ensures.grows;
  right = c.in_ok-one.ensures.sort;
}

pub loop-i-init : goal.loop-i-init
loop-i-init c = record {
  x = OfSort-later _ _ (set_of number) _ (OfSort-later _ _ (set_of number) _ c.in_ok-x.ensures.sort c.in_ok-one.ensures.grows) c.in_ok-y.ensures.grows;
  y = c.in_ok-y.ensures.made.sort number
      (OfSort-later _ _ (set_of number) _ c.in_ok-x.ensures.sort c.in_ok-one.ensures.grows)
      c.in_ok-one.ensures.sort;
}

pub choose_cell-requires-clause-types : goal.choose_cell-requires-clause-types
choose_cell-requires-clause-types c = record {
  sort = set_of number;
  left = OfSort-later _ _ (set_of number) _ c.loop-i.invariant.y c.in_ok-l.ensures.grows;
  right = OfSort-later _ _ (set_of number) _ c.loop-i.invariant.x c.in_ok-l.ensures.grows;
}

pub loop-i-preserved : goal.loop-i-preserved
loop-i-preserved c = record {
  x = OfSort-later _ _ (set_of number) _ (OfSort-later _ _ (set_of number) _ c.loop-i.invariant.x c.in_ok-l.ensures.grows) c.in_ok-y-2.ensures.grows;
  y = c.in_ok-y-2.ensures.chosen.sort (set_of number)
      (OfSort-later _ _ (set_of number) _ c.loop-i.invariant.y c.in_ok-l.ensures.grows)
      (OfSort-later _ _ (set_of number) _ c.loop-i.invariant.x c.in_ok-l.ensures.grows);
}
