use Rattle.std.proofs.Common.{◌≡◌, take}
use Rattle.tla_evaluator.specs.inner.Bound.{bindings}
use Rattle.tla_evaluator.proofs.context.names_of.Given as goal

abbrev pub invariant-loop-name : goal.invariant-loop-name
invariant-loop-name l = bindings l.bound.items ≡ take l.name-index l.env
