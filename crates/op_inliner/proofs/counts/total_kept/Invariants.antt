use Rattle.op_inliner.proofs.SumSteps.{Totals}
use Rattle.op_inliner.specs.inner.Sums.{total_kept}
use Rattle.op_inliner.proofs.counts.total_kept.Given as goal

abbrev pub invariant-loop-i : goal.invariant-loop-i
invariant-loop-i l = Totals total_kept l.operands l.i l.all

abbrev pub decreases-loop-i : goal.decreases-loop-i
decreases-loop-i l = l.i
