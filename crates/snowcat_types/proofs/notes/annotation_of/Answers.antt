use Rattle.snowcat_types.proofs.NoteSteps.{annotation_found, annotation_next, annotation_none}
use Rattle.snowcat_types.proofs.notes.annotation_of.Goals as goal

pub returns-in-Some-clause-some : goal.returns-in-Some-clause-some
returns-in-Some-clause-some c = annotation_found c.args.note.now c.in-Some.annotation.now c.loop-i.i c.loop-i-test.true c.loop-i.invariant c.in-Some.ensures.some

pub loop-i-preserved : goal.loop-i-preserved
loop-i-preserved c = annotation_next c.args.note.now c.loop-i.i c.loop-i-test.true c.loop-i.invariant c.in-None.ensures.none

pub returns-clause-none : goal.returns-clause-none
returns-clause-none c = annotation_none c.args.note.now c.loop-i.i c.loop-i-test.false c.loop-i.invariant
