use Rattle.std.proofs.lemmas.Str.Parse.{digit_at}
use Rattle.trace_text.proofs.Decimals.{value_more}
use Rattle.trace_text.proofs.numbers.value.Goals as goal

pub overflow_sub-digit : goal.overflow_sub-digit
overflow_sub-digit c = (digit_at c.args.digits.now c.loop-digit.digit-index c.requires c.loop-digit-test.true).0

pub loop-digit-preserved : goal.loop-digit-preserved
loop-digit-preserved c =
    value_more c.args.digits.now c.loop-digit.digit-index c.loop-digit.n c.saturating_mul.result c.from.result c.saturating_add-n.result c.requires c.loop-digit-test.true
    c.loop-digit.invariant c.saturating_mul.ensures c.from.ensures c.saturating_add-n.ensures
