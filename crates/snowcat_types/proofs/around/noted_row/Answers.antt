use Rattle.snowcat_types.proofs.NamedSteps.{note_at_named}
use Rattle.snowcat_types.proofs.around.noted_row.Goals as goal

pub returns-then-same_name-clause-named : goal.returns-then-same_name-clause-named
returns-then-same_name-clause-named c = λ h.
    c.in_ok-row.ensures.named (note_at_named c.args.notes.now c.loop-i.i c.index-notes-i.result c.loop-i-test.true c.index-notes-i.is h)
