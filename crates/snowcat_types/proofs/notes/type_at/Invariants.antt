use Rattle.std.proofs.Common.{◌≡◌, take, drop}
use Rattle.snowcat_types.specs.Annotated.{type_at}
use Rattle.snowcat_types.proofs.NoteSteps.{behind_front}
use Rattle.snowcat_types.proofs.notes.type_at.Given as goal

abbrev pub invariant-loop-i : goal.invariant-loop-i
invariant-loop-i l = type_at l.bytes ≡ behind_front (take l.i l.bytes) (type_at (drop l.i l.bytes))
