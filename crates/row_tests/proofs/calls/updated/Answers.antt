use Rattle.std.proofs.Common.{refl}
use Rattle.cell_merge.specs.Sorts.{number}
use Rattle.row_tests.proofs.calls.updated.Goals as goal

pub update-requires : goal.update-requires
update-requires c = record {
  from = number;
  to = number;
  function = c.if-is_function.ensures refl;
  argument = c.if-is_number.ensures refl;
  result = c.if-is_number-2.ensures refl;
}
