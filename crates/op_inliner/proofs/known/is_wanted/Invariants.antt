use Rattle.std.proofs.Common.{◌≡◌, ◌≤◌, length, take}
use Rattle.tla_meaning.specs.Scopes.{find_last}
use Rattle.op_inliner.proofs.known.is_wanted.Given as goal

abbrev pub invariant-loop-i : goal.invariant-loop-i
invariant-loop-i l = record {
  within : l.i ≤ length l.scope;
  same : find_last l.name (take l.i l.scope) ≡ find_last l.name l.scope;
}

abbrev pub decreases-loop-i : goal.decreases-loop-i
decreases-loop-i l = l.i
