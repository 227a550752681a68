use Rattle.snowcat_rows.proofs.Throughouts.{item_at, record_as}
use Rattle.snowcat_rows.proofs.operators.+plain.Goals as goal

pub have_no_operator-returns-then-not-has_no_operator : goal.have_no_operator-returns-then-not-has_no_operator
have_no_operator-returns-then-not-has_no_operator t c =
    λ b. c.if-not-has_no_operator.ensures (item_at _ _ _ c.args.ts.now c.loop-i.i c.index-ts-i.result c.loop-i-test.true c.index-ts-i.is b)

pub has_no_operator-returns-in-Rec : goal.has_no_operator-returns-in-Rec
has_no_operator-returns-in-Rec t c =
    record_as _ _ _ c.args.t.now c.in-Rec.fs c.as_slice-in-Rec.result.now _ c.fields_have_no_operator.result c.in-Rec.is c.as_slice-in-Rec.ensures tt c.fields_have_no_operator.ensures
