use Rattle.snowcat_rows.proofs.Throughouts.{item_at, record_not}
use Rattle.snowcat_rows.proofs.settling.+settled.Goals as goal

pub are_settled-returns-then-not-is_settled : goal.are_settled-returns-then-not-is_settled
are_settled-returns-then-not-is_settled t c =
    λ b. c.if-not-is_settled.ensures (item_at _ _ _ c.args.ts.now c.loop-i.i c.index-ts-i.result c.loop-i-test.true c.index-ts-i.is b)

pub is_settled-returns-else-fields_settled : goal.is_settled-returns-else-fields_settled
is_settled-returns-else-fields_settled t c =
    record_not _ _ _ c.args.t.now c.in-Rec.fs c.as_slice-in-Rec.result.now c.in-Rec.tail c.fields_settled.result c.in-Rec.is c.as_slice-in-Rec.ensures c.if-fields_settled.false c.if-fields_settled.ensures
