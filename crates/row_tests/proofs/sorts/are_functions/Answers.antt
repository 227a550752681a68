use Rattle.std.proofs.Common.{refl}
use Rattle.cell_merge.specs.Sorts.{number, truth, function_of}
use Rattle.row_tests.proofs.sorts.are_functions.Goals as goal

pub returns-then-is_function-2 : goal.returns-then-is_function-2
returns-then-is_function-2 c = λ t. record {
  sort = function_of number number;
  left = c.if-is_function.ensures refl;
  right = c.if-is_function-2.ensures refl;
}

pub returns-then-is_test : goal.returns-then-is_test
returns-then-is_test c = λ t. record {
  sort = function_of number truth;
  left = c.if-is_test.ensures refl;
  right = c.is_test-then-is_test.ensures t;
}
