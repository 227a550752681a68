use Rattle.std.proofs.Common.{◌≡◌, drop}
use Rattle.snowcat_types.specs.Annotated.{annotation_of}
use Rattle.snowcat_types.proofs.notes.annotation_of.Given as goal

abbrev pub invariant-loop-i : goal.invariant-loop-i
invariant-loop-i l = annotation_of (drop l.i l.note) ≡ annotation_of l.note
