use Rattle.std.proofs.Common.{◌≡◌, take}
use Rattle.op_inliner.specs.inner.Bodies.{bodies_of}
use Rattle.op_inliner.proofs.bodies.bodies_of.Given as goal

abbrev pub invariant-loop-def : goal.invariant-loop-def
invariant-loop-def l = l.bodies.items ≡ bodies_of (take l.def-index l.defs)
