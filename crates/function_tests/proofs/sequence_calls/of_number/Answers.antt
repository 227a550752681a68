use Rattle.cell_merge.specs.Sorts.{number, sequence_of}
use Rattle.cell_merge.proofs.SortLaws.{OfSort-later}
use Rattle.function_tests.proofs.sequence_calls.of_number.Goals as goal

pub push-requires : goal.push-requires
push-requires c = record {
  sort = number;
  sequence = OfSort-later _ _ (sequence_of number) _ c.in_ok-s.ensures.sort c.in_ok-x.ensures.grows;
  item = c.in_ok-x.ensures.sort;
}

pub at_place-requires : goal.at_place-requires
at_place-requires c = record {
  sort = number;
  sequence = OfSort-later _ _ (sequence_of number) _ c.in_ok-s.ensures.sort c.in_ok-x.ensures.grows;
  index = c.in_ok-x.ensures.sort;
}
