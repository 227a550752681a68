use Rattle.std.proofs.Common.{refl}
use Rattle.cell_merge.specs.Sorts.{number}
use Rattle.row_tests.proofs.calls.joined.Goals as goal

pub join-requires : goal.join-requires
join-requires c = record {
  from = number;
  to = number;
  left = c.if-not-is_function.ensures refl;
  right = c.if-not-is_function-2.ensures refl;
}
