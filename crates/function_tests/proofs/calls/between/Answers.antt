use Rattle.cell_merge.specs.Sorts.{number, set_of}
use Rattle.cell_merge.proofs.SortLaws.{OfSort-later}
use Rattle.function_tests.proofs.calls.between.Goals as goal

pub pick_function-requires : goal.pick_function-requires
pick_function-requires c = record {
  domain = record { sort = number; is = OfSort-later _ _ (set_of number) _ c.in_ok-from.ensures.sort c.in_ok-to.ensures.grows };
  range = record { sort = number; is = c.in_ok-to.ensures.sort };
}

pub functions-requires : goal.functions-requires
functions-requires c = record {
  domain = record { sort = number; is = OfSort-later _ _ (set_of number) _ c.in_ok-from.ensures.sort c.in_ok-to.ensures.grows };
  range = record { sort = number; is = c.in_ok-to.ensures.sort };
}
