use Rattle.std.proofs.Common.{get_or, refl}
use Rattle.op_inliner.proofs.MarkSteps.{marks_step}
use Rattle.op_inliner.proofs.trees.except_marks.Goals as goal

pub loop-n-preserved : goal.loop-n-preserved
loop-n-preserved c =
    marks_step c.args.counts.now c.loop-n.n-index (get_or c.args.counts.now c.loop-n.n-index 0) c.loop-n.marks.items c.add_behind.new.marks.items c.loop-n-test.true refl c.loop-n.invariant c.in_ok-add_behind.ensures
