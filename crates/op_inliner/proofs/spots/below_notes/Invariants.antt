use Rattle.op_inliner.specs.inner.Spots.{UnderNotes}
use Rattle.op_inliner.proofs.spots.below_notes.Given as goal

abbrev pub invariant-loop : goal.invariant-loop
invariant-loop l = UnderNotes l.fn.frames.items l.frames.items l.fn.spot l.spot
