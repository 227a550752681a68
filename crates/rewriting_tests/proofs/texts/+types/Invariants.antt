use Rattle.std.proofs.Common.{take}
use Rattle.rewriting_tests.specs.inner.Among.{AreFieldsAmong, AreTypesAmong}
use Rattle.rewriting_tests.proofs.texts.+types.Given as goal

abbrev pub invariant-are_types_among-loop-i : goal.invariant-are_types_among-loop-i
invariant-are_types_among-loop-i l = AreTypesAmong l.texts (take l.i l.types)

abbrev pub invariant-are_fields_among-loop-i : goal.invariant-are_fields_among-loop-i
invariant-are_fields_among-loop-i l = AreFieldsAmong l.texts (take l.i l.fields)
