use Rattle.std.proofs.Common.{◌≡◌, ◌≤◌, take, length}
use Rattle.tla_evaluator.proofs.Words.{find_last}
use Rattle.tla_evaluator.specs.inner.Bound.{bindings}
use Rattle.tla_evaluator.proofs.context.Context.read_bound.Given as goal

abbrev pub invariant-loop-i : goal.invariant-loop-i
invariant-loop-i l = (l.i ≤ length l.self-inside.bound.items) × (find_last l.name (bindings (take l.i l.self-inside.bound.items)) ≡ find_last l.name (bindings l.self-inside.bound.items))

abbrev pub decreases-loop-i : goal.decreases-loop-i
decreases-loop-i l = l.i
