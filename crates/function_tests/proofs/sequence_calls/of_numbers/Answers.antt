use Rattle.cell_merge.specs.Sorts.{number, sequence_of}
use Rattle.cell_merge.proofs.SortLaws.{OfSort-later}
use Rattle.function_tests.proofs.sequence_calls.of_numbers.Goals as goal

pub update_place-requires : goal.update_place-requires
update_place-requires c =
    let s = sequence_of number in
    record {
      sort = number;
      sequence = OfSort-later _ _ s _ (OfSort-later _ _ s _ c.in_ok-s.ensures.sort c.in_ok-x.ensures.grows) c.in_ok-y.ensures.grows;
      index = OfSort-later _ _ number _ c.in_ok-x.ensures.sort c.in_ok-y.ensures.grows;
      item = c.in_ok-y.ensures.sort;
    }

pub slice-requires : goal.slice-requires
slice-requires c =
    let s = sequence_of number in
    record {
      sort = number;
      sequence = OfSort-later _ _ s _ (OfSort-later _ _ s _ c.in_ok-s.ensures.sort c.in_ok-x.ensures.grows) c.in_ok-y.ensures.grows;
      first = OfSort-later _ _ number _ c.in_ok-x.ensures.sort c.in_ok-y.ensures.grows;
      last = c.in_ok-y.ensures.sort;
    }
