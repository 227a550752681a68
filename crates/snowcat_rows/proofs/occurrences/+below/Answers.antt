use Rattle.snowcat_rows.proofs.Throughouts.{item_at, record_not}
use Rattle.snowcat_rows.proofs.occurrences.+below.Goals as goal

pub are_below-returns-then-not-is_below : goal.are_below-returns-then-not-is_below
are_below-returns-then-not-is_below t c =
    λ b. c.if-not-is_below.ensures (item_at _ _ _ c.args.ts.now c.loop-i.i c.index-ts-i.result c.loop-i-test.true c.index-ts-i.is b)

pub is_below-returns-else-fields_below : goal.is_below-returns-else-fields_below
is_below-returns-else-fields_below t c =
    record_not _ _ _ c.args.t.now c.in-Rec.fs c.as_slice-in-Rec.result.now c.in-Rec.tail c.fields_below.result c.in-Rec.is c.as_slice-in-Rec.ensures c.if-fields_below.false c.if-fields_below.ensures
