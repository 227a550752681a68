use Rattle.expr_rewriter.proofs.Steps.{zip_push}
use Rattle.expr_rewriter.proofs.names.push_all.Goals as goal

pub loop-i-preserved : goal.loop-i-preserved
loop-i-preserved c =
    rw c.in_ok-push.ensures.items
    (zip_push c.loop-i.bound.items c.args.bound.now.items c.args.numbers.now c.args.cells.now c.loop-i.i 0 (record { index = 0 })
    c.loop-i.invariant c.requires c.loop-i-test.true)
