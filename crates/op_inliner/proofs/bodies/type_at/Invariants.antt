use Rattle.std.proofs.Common.{◌≡◌, take, drop}
use Rattle.op_inliner.specs.Annotations.{type_at}
use Rattle.op_inliner.proofs.NoteSteps.{behind_front}
use Rattle.op_inliner.proofs.bodies.type_at.Given as goal

abbrev pub invariant-loop-i : goal.invariant-loop-i
invariant-loop-i l = type_at l.bytes ≡ behind_front (take l.i l.bytes) (type_at (drop l.i l.bytes))
