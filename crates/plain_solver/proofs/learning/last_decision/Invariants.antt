use Rattle.std.proofs.Common.{◌≡◌, ◌≤◌, length, drop, []}
use Rattle.cdcl_solver.specs.inner.Chain.{decisions}
use Rattle.plain_solver.proofs.learning.last_decision.Given as goal

abbrev pub invariant-loop-i : goal.invariant-loop-i
invariant-loop-i l = record {
  below : l.i ≤ length l.entries;
  later : decisions (drop l.i l.entries) ≡ [];
}

abbrev pub decreases-loop-i : goal.decreases-loop-i
decreases-loop-i l = l.i
