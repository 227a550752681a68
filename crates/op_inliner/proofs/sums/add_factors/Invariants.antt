use Rattle.std.proofs.Common.{length, ◌-◌}
use Rattle.op_inliner.proofs.SumSteps.{Adding}
use Rattle.op_inliner.proofs.sums.add_factors.Given as goal

abbrev pub invariant-loop-i : goal.invariant-loop-i
invariant-loop-i l = Adding l.us l.vs l.i l.sums.items

abbrev pub decreases-loop-i : goal.decreases-loop-i
decreases-loop-i l = length l.us - l.i
