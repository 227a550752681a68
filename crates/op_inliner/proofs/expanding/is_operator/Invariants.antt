use Rattle.std.proofs.Common.{◌≡◌, ◌≤◌, [], length, map, take}
use Rattle.tla_meaning.specs.Scopes.{find_last}
use Rattle.op_inliner.specs.Known.{arities_of}
use Rattle.op_inliner.proofs.ExpandSteps.{arity_of}
use Rattle.op_inliner.proofs.expanding.is_operator.Given as goal

abbrev pub invariant-loop-i : goal.invariant-loop-i
invariant-loop-i l = record {
  within : l.i ≤ length l.defs;
  same : find_last l.name (map arity_of (take l.i l.defs)) ≡ find_last l.name (arities_of l.defs []);
}

abbrev pub decreases-loop-i : goal.decreases-loop-i
decreases-loop-i l = l.i
