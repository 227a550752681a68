use Rattle.std.proofs.Common.{◌≡◌, ◌++◌}
use Rattle.snowcat_types.proofs.updates.push_all.Given as goal

abbrev pub invariant-loop-other : goal.invariant-loop-other
invariant-loop-other l = l.operands.items ≡ l.fn.operands.items ++ l.yielded
