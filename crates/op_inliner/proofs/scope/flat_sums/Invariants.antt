use Rattle.std.proofs.Common.{◌≡◌}
use Rattle.op_inliner.specs.inner.Sums.{flat_sums}
use Rattle.op_inliner.proofs.scope.flat_sums.Given as goal

abbrev pub invariant-loop-counted : goal.invariant-loop-counted
invariant-loop-counted l = l.sums.items ≡ flat_sums l.yielded
