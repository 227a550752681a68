use Rattle.cell_merge.specs.Sorts.{number, sequence_of}
use Rattle.cell_merge.proofs.SortLaws.{OfSort-later}
use Rattle.function_tests.proofs.sequence_calls.glued.Goals as goal

pub glue-requires : goal.glue-requires
glue-requires c = record {
  sort = number;
  left = OfSort-later _ _ (sequence_of number) _ c.in_ok-s.ensures.sort c.in_ok-t.ensures.grows;
  right = c.in_ok-t.ensures.sort;
}
