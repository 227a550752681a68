use Rattle.std.proofs.Common.{◌≡◌, ◌≤◌, take, length}
use Rattle.tla_meaning.specs.Scopes.{find_last}
use Rattle.op_inliner.specs.inner.Sums.{scope_of}
use Rattle.op_inliner.proofs.scope.find_last.Given as goal

abbrev pub invariant-loop-i : goal.invariant-loop-i
invariant-loop-i l = (l.i ≤ length l.scope) × (find_last l.name (scope_of (take l.i l.scope)) ≡ find_last l.name (scope_of l.scope))

abbrev pub decreases-loop-i : goal.decreases-loop-i
decreases-loop-i l = l.i
