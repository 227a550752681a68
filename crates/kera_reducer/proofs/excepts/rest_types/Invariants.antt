use Rattle.std.proofs.Common.{◌≡◌, ◌≤◌, drop, length, reverse}
use Rattle.kera_reducer.specs.inner.Excepts.{rest_types}
use Rattle.kera_reducer.proofs.excepts.rest_types.Given as goal

abbrev pub invariant-loop-left : goal.invariant-loop-left
invariant-loop-left l = record {
  within : l.left ≤ length l.operands;
  types : reverse l.types.items ≡ rest_types (drop l.left l.operands);
}

abbrev pub decreases-loop-left : goal.decreases-loop-left
decreases-loop-left l = l.left
