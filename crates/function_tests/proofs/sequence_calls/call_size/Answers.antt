use Rattle.cell_merge.specs.Sorts.{number, truth, sequence_of}
use Rattle.cell_merge.proofs.SortLaws.{OfSort-later}
use Rattle.function_tests.proofs.sequence_calls.call_size.Goals as goal

pub glue-requires : goal.glue-requires
glue-requires c = record {
  sort = truth;
  left = OfSort-later _ _ (sequence_of truth) _ c.in_ok-s.ensures.sort c.in_ok-t.ensures.grows;
  right = c.in_ok-t.ensures.sort;
}

pub at_place-requires : goal.at_place-requires
at_place-requires c =
    let s = sequence_of truth in
    record {
      sort = truth;
      sequence = OfSort-later _ _ s _ (OfSort-later _ _ s _ c.in_ok-s.ensures.sort c.in_ok-x.ensures.grows) c.in_ok-y.ensures.grows;
      index = OfSort-later _ _ number _ c.in_ok-x.ensures.sort c.in_ok-y.ensures.grows;
    }

pub slice-requires : goal.slice-requires
slice-requires c =
    let s = sequence_of truth in
    record {
      sort = truth;
      sequence = OfSort-later _ _ s _ (OfSort-later _ _ s _ c.in_ok-s.ensures.sort c.in_ok-x.ensures.grows) c.in_ok-y.ensures.grows;
      first = OfSort-later _ _ number _ c.in_ok-x.ensures.sort c.in_ok-y.ensures.grows;
      last = c.in_ok-y.ensures.sort;
    }
