use Rattle.std.proofs.Common.{◌+◌}
use Rattle.snowcat_types.proofs.RowsNamed.{unknown_named}
use Rattle.snowcat_types.proofs.around.note_row.Goals as goal

pub returns-in_ok-whole-in-None-clause-named : goal.returns-in_ok-whole-in-None-clause-named
returns-in_ok-whole-in-None-clause-named c = λ h.
    c.gives.ensures.named
    (c.in_ok-types-in-None.ensures.named (unknown_named c.in_ok-unknown-in-None.field-0 (c.args.first + 0) c.in_ok-unknown-in-None.ensures))
    (unknown_named c.in_ok-whole-in-None.whole (c.args.first + 0) c.in_ok-whole-in-None.ensures)
