use Rattle.std.proofs.Common.{◌≡◌, drop}
use Rattle.op_inliner.specs.Annotations.{annotation_of}
use Rattle.op_inliner.proofs.bodies.annotation_of.Given as goal

abbrev pub invariant-loop-i : goal.invariant-loop-i
invariant-loop-i l = annotation_of (drop l.i l.note) ≡ annotation_of l.note
