use Rattle.std.proofs.Common.{take}
use Rattle.snowcat_rows.specs.inner.Places.{Indexed}
use Rattle.snowcat_rows.proofs.substitution.note_places.Given as goal

abbrev pub invariant-loop-i : goal.invariant-loop-i
invariant-loop-i l = Indexed l.places (take l.i l.bindings)
