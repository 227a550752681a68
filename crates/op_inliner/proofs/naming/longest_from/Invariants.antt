use Rattle.std.proofs.Common.{◌≡◌, ◌≤◌, drop, length}
use Rattle.op_inliner.specs.inner.Naming.{longest_from}
use Rattle.op_inliner.proofs.naming.longest_from.Given as goal

abbrev pub invariant-loop-i : goal.invariant-loop-i
invariant-loop-i l = record {
  within : l.i ≤ length l.names;
  is : l.longest ≡ longest_from l.least (drop l.i l.names);
}

abbrev pub decreases-loop-i : goal.decreases-loop-i
decreases-loop-i l = l.i
