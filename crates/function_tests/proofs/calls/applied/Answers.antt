use Rattle.cell_merge.specs.Sorts.{number, function_of}
use Rattle.cell_merge.proofs.SortLaws.{OfSort-later}
use Rattle.function_tests.proofs.calls.applied.Goals as goal

pub at-requires : goal.at-requires
at-requires c = record {
  from = number;
  to = number;
  function = OfSort-later _ _ (function_of number number) _ c.in_ok-f.ensures.sort c.in_ok-x.ensures.grows;
  argument = c.in_ok-x.ensures.sort;
}
