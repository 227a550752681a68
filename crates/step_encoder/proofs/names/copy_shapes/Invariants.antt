use Rattle.std.proofs.Common.{◌≡◌, take}
use Rattle.step_encoder.proofs.names.copy_shapes.Given as goal

abbrev pub invariant-loop-i : goal.invariant-loop-i
invariant-loop-i l = l.copies.items ≡ take l.i l.shapes
