use Rattle.snowcat_rows.proofs.Throughouts.{item_at}
use Rattle.snowcat_types.proofs.saying.have_no_operator.Goals as goal

pub returns-then-not-has_no_operator : goal.returns-then-not-has_no_operator
returns-then-not-has_no_operator c =
    λ b. c.if-not-has_no_operator.ensures (item_at _ _ _ c.args.ts.now c.loop-i.i c.index-ts-i.result c.loop-i-test.true c.index-ts-i.is b)
