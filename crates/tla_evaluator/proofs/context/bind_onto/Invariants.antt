use Rattle.std.proofs.Common.{◌≡◌, ◌++◌, drop}
use Rattle.tla_evaluator.proofs.Words.{bound_to}
use Rattle.tla_evaluator.specs.inner.Bound.{bindings}
use Rattle.tla_evaluator.proofs.context.bind_onto.Given as goal

abbrev pub invariant-loop-i : goal.invariant-loop-i
invariant-loop-i l = bindings l.bound.items ++ bound_to (drop l.i l.names) (drop l.i l.values) ≡ bindings l.initial.bound.items ++ bound_to l.names l.values
