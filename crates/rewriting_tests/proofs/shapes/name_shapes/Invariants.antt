use Rattle.rewriting_tests.specs.inner.KeptShapes.{AreKept}
use Rattle.rewriting_tests.proofs.shapes.name_shapes.Given as goal

abbrev pub invariant-loop-name : goal.invariant-loop-name
invariant-loop-name l = AreKept l.shapes.items
