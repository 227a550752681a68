use Rattle.std.proofs.Common.{◌≡◌}
use Rattle.op_inliner.specs.inner.Bodies.{first_used}
use Rattle.op_inliner.proofs.bodies.first_used.Given as goal

abbrev pub invariant-loop-e : goal.invariant-loop-e
invariant-loop-e l = l.all.items ≡ first_used l.yielded
