use Rattle.op_inliner.proofs.NoteSteps.{too_short}
use Rattle.op_inliner.proofs.bodies.behind.Goals as goal

pub returns-then-i-bytes-clause-none : goal.returns-then-i-bytes-clause-none
returns-then-i-bytes-clause-none c = too_short c.args.beginning.now c.args.bytes.now c.loop-i.i c.loop-i.invariant c.loop-i-test.true c.if-i-bytes.true
