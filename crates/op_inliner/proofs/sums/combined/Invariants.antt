use Rattle.op_inliner.proofs.SumSteps.{Combining}
use Rattle.op_inliner.proofs.sums.combined.Given as goal

abbrev pub invariant-loop-i : goal.invariant-loop-i
invariant-loop-i l = Combining l.us l.ss l.i l.all

abbrev pub decreases-loop-i : goal.decreases-loop-i
decreases-loop-i l = l.i
