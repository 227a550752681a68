use Rattle.expr_rewriter.proofs.LeafRows.{found_before, found_here}
use Rattle.expr_rewriter.proofs.leaves.last_bound.Goals as goal
use Rattle.expr_rewriter.proofs.leaves.last_bound.Goals.{then-n-entry, else-n-entry}

pub loop-entry-preserved : goal.loop-entry-preserved
loop-entry-preserved c =
    elim c.if-n-entry.branch [
      | then-n-entry w ↦ found_here c.args.bound.now c.loop-entry.entry-index c.args.n _ _ c.loop-entry-test.true
          w.if-n-entry.true w.last-is
      | else-n-entry w ↦ found_before c.args.bound.now c.loop-entry.entry-index c.args.n _ _ c.loop-entry-test.true _
          w.if-n-entry.false w.last-is c.loop-entry.invariant
    ]
