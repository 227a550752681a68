use Rattle.std.proofs.Common.{subst}
use Rattle.path_cell_tests.proofs.Plain.{AreTextless, textless, textless-all}
use Rattle.path_cell_tests.proofs.texts.+is_textless.Goals as goal

pub returns : goal.returns
returns t c = λ h. textless _ (c.has_no_text.ensures c.if-not-has_no_text.false)
    (c.is_plain.ensures c.if-not-is_plain.false)
    (subst AreTextless c.as_slice-args.ensures (textless-all _ _ c.loop-i-test.false c.loop-i.invariant))
