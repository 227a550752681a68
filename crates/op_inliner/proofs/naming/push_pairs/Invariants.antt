use Rattle.std.proofs.Common.{◌≡◌, ◌≤◌, ◌++◌, ◌-◌, drop, length, zip}
use Rattle.op_inliner.proofs.naming.push_pairs.Given as goal

abbrev pub invariant-loop-i : goal.invariant-loop-i
invariant-loop-i l = record {
  first : l.i ≤ length l.names;
  second : l.i ≤ length l.new_names;
  is : l.pairs.items ++ zip (drop l.i l.names) (drop l.i l.new_names) ≡ l.fn.pairs.items ++ zip l.names l.new_names;
}

abbrev pub decreases-loop-i : goal.decreases-loop-i
decreases-loop-i l = length l.names - l.i
