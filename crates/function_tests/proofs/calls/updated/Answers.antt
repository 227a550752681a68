use Rattle.cell_merge.specs.Sorts.{number, function_of}
use Rattle.cell_merge.proofs.SortLaws.{OfSort-later}
use Rattle.function_tests.proofs.calls.updated.Goals as goal

pub update-requires : goal.update-requires
update-requires c =
    let s = function_of number number in
    record {
      from = number;
      to = number;
      function = OfSort-later _ _ s _ (OfSort-later _ _ s _ c.in_ok-f.ensures.sort c.in_ok-x.ensures.grows) c.in_ok-v.ensures.grows;
      argument = OfSort-later _ _ number _ c.in_ok-x.ensures.sort c.in_ok-v.ensures.grows;
      result = c.in_ok-v.ensures.sort;
    }
