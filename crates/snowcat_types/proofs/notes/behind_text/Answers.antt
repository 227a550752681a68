use Rattle.snowcat_types.proofs.NoteSteps.{too_short}
use Rattle.snowcat_types.proofs.notes.behind_text.Goals as goal

pub returns-then-i-bytes-clause-none : goal.returns-then-i-bytes-clause-none
returns-then-i-bytes-clause-none c = too_short c.args.beginning.now c.args.bytes.now c.loop-i.i c.loop-i.invariant c.loop-i-test.true c.if-i-bytes.true
