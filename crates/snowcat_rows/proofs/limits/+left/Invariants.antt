use Rattle.std.proofs.Common.{◌≤◌}
use Rattle.snowcat_rows.proofs.limits.+left.Given as goal

abbrev pub invariant-all_left-loop-t : goal.invariant-all_left-loop-t
invariant-all_left-loop-t l = l.left ≤ l.parts

abbrev pub invariant-fields_left-loop-f : goal.invariant-fields_left-loop-f
invariant-fields_left-loop-f l = l.left ≤ l.parts
