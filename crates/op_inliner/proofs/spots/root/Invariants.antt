use Rattle.op_inliner.specs.inner.Spots.{Leads}
use Rattle.op_inliner.proofs.spots.root.Given as goal

abbrev pub invariant-loop : goal.invariant-loop
invariant-loop l = Leads l.fn.frames.items l.frames.items l.fn.spot l.spot
