use Rattle.std.proofs.Common.{◌≡◌, drop}
use Rattle.snowcat_types.specs.inner.Built.{note_of}
use Rattle.snowcat_types.proofs.around.noted_row.Given as goal

abbrev pub invariant-loop-i : goal.invariant-loop-i
invariant-loop-i l = note_of (drop l.i l.notes) l.text ≡ note_of l.notes l.text
