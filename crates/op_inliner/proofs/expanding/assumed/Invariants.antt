use Rattle.std.proofs.Common.{◌≡◌, map, take}
use Rattle.tla_meaning.specs.Folds.{with_lambdas}
use Rattle.op_inliner.proofs.expanding.assumed.Given as goal

abbrev pub invariant-loop-e : goal.invariant-loop-e
invariant-loop-e l = l.all.items ≡ map with_lambdas (take l.e-index l.flat.assumes)
