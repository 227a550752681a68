use Rattle.std.proofs.Common.{arith}
use Rattle.cell_merge.specs.Sorts.{number}
use Rattle.cell_merge.proofs.SortLaws.{OfSort-later}
use Rattle.function_tests.proofs.equalities.arrow.Goals as goal

pub returns-clause-arrow : goal.returns-clause-arrow
returns-clause-arrow c = record {
  below = let p = c.literal_of-l.ensures in let g = c.in_ok-x.ensures.grows.formula.vars in let h = c.in_ok-y.ensures.grows.formula.vars in omega arith;
  argument = OfSort-later _ _ number _ c.in_ok-x.ensures.sort c.in_ok-y.ensures.grows;
  result = c.in_ok-y.ensures.sort;
}
