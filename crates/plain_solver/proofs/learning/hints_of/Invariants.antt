use Rattle.std.proofs.Common.{◌≡◌, take}
use Rattle.cdcl_solver.specs.inner.Chain.{reasons}
use Rattle.plain_solver.proofs.learning.hints_of.Given as goal

abbrev pub invariant-loop-e : goal.invariant-loop-e
invariant-loop-e l = l.ids.items ≡ reasons (take l.e-index l.entries)
