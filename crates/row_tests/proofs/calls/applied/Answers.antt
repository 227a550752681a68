use Rattle.std.proofs.Common.{refl}
use Rattle.cell_merge.specs.Sorts.{number}
use Rattle.row_tests.proofs.calls.applied.Goals as goal

pub at-requires : goal.at-requires
at-requires c = record {
  from = number;
  to = number;
  function = c.if-is_function.ensures refl;
  argument = c.if-is_number.ensures refl;
}
