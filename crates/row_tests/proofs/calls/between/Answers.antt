use Rattle.std.proofs.Common.{refl}
use Rattle.cell_merge.specs.Sorts.{number}
use Rattle.row_tests.proofs.calls.between.Goals as goal

pub functions-requires : goal.functions-requires
functions-requires c = record {
  domain = record { sort = number; is = c.if-not-is_set.ensures refl };
  range = record { sort = number; is = c.if-not-is_set-2.ensures refl };
}
