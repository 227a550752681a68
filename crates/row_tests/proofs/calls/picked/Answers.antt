use Rattle.std.proofs.Common.{refl}
use Rattle.cell_merge.specs.Sorts.{number}
use Rattle.row_tests.proofs.calls.picked.Goals as goal

pub pick_function-requires : goal.pick_function-requires
pick_function-requires c = record {
  domain = record { sort = number; is = c.if-not-is_set.ensures refl };
  range = record { sort = number; is = c.if-not-is_set-2.ensures refl };
}
