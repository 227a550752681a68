use Rattle.cell_merge.specs.Sorts.{number, function_of}
use Rattle.cell_merge.proofs.SortLaws.{OfSort-later}
use Rattle.function_tests.proofs.Shaped.{one-type}
use Rattle.function_tests.proofs.calls.of_two.Goals as goal

pub join-requires : goal.join-requires
join-requires c = record {
  from = number;
  to = number;
  left = OfSort-later _ _ (function_of number number) _ c.in_ok-f.ensures.sort c.in_ok-g.ensures.grows;
  right = c.in_ok-g.ensures.sort;
}

pub choose_cell-requires-clause-types : goal.choose_cell-requires-clause-types
choose_cell-requires-clause-types c =
    let s = function_of number number in
    one-type _ s _ _ (OfSort-later _ _ s _ c.in_ok-f.ensures.sort c.in_ok-g.ensures.grows) c.in_ok-g.ensures.sort
