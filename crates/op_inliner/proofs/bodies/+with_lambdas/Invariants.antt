use Rattle.std.proofs.Common.{◌≡◌, map}
use Rattle.tla_meaning.specs.Folds.{with_lambdas}
use Rattle.op_inliner.proofs.bodies.+with_lambdas.Given as goal

abbrev pub invariant-all_with_lambdas-loop-e : goal.invariant-all_with_lambdas-loop-e
invariant-all_with_lambdas-loop-e l = l.all.items ≡ map with_lambdas l.yielded
