use Rattle.std.proofs.Common.{◌≡◌, ◌≤◌, length, take}
use Rattle.tla_meaning.specs.Scopes.{find_last}
use Rattle.snowcat_types.specs.inner.Built.{scope_of}
use Rattle.snowcat_types.proofs.around.bound_type.Given as goal

abbrev pub decreases-loop-i : goal.decreases-loop-i
decreases-loop-i l = l.i

abbrev pub invariant-loop-i : goal.invariant-loop-i
invariant-loop-i l = record {
  within : l.i ≤ length l.bound;
  same : find_last l.name (scope_of (take l.i l.bound)) ≡ find_last l.name (scope_of l.bound);
}
