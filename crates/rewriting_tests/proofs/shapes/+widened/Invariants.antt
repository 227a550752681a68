use Rattle.rewriting_tests.specs.inner.KeptShapes.{AreFieldsKept, AreKept}
use Rattle.rewriting_tests.proofs.shapes.+widened.Given as goal

abbrev pub invariant-widened_items-loop-i : goal.invariant-widened_items-loop-i
invariant-widened_items-loop-i l = AreKept l.items.items

abbrev pub invariant-widened_fields-loop-i : goal.invariant-widened_fields-loop-i
invariant-widened_fields-loop-i l = AreFieldsKept l.items.items
