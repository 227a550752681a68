use Rattle.std.proofs.Common.{◌≡◌, map, take}
use Rattle.refutation_checker.specs.Follows.{negation}
use Rattle.cdcl_solver.specs.inner.Chain.{decisions}
use Rattle.plain_solver.proofs.learning.negated_decisions.Given as goal

abbrev pub invariant-loop-e : goal.invariant-loop-e
invariant-loop-e l = l.lits.items ≡ map negation (decisions (take l.e-index l.entries))
