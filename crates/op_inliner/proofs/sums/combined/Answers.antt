use Rattle.op_inliner.proofs.SumSteps.{combine_begun}
use Rattle.op_inliner.proofs.sums.combined.Goals as goal

pub loop-i-init : goal.loop-i-init
loop-i-init c = rw (c.plain_number-all.ensures) (combine_begun c.args.us.now c.args.ss.now c.min-i.result c.min-i.ensures)
