use Rattle.std.proofs.Common.{◌≡◌}
use Rattle.kera_reducer.specs.inner.Standing.{flat}
use Rattle.kera_reducer.proofs.cases.arms_of.Given as goal

abbrev pub invariant-loop-kid : goal.invariant-loop-kid
invariant-loop-kid l = flat l.arms.items l.guard ≡ l.yielded
