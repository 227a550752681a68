use Rattle.std.proofs.Common.{arith}
use Rattle.tla_lexer.proofs.NumberLemmas.{too_big}
use Rattle.tla_lexer.proofs.words.number.Goals as goal

pub returns-then-value-last : goal.returns-then-value-last
returns-then-value-last c =
    too_big c.args.digits.now c.loop-digit.digit-index c.loop-digit.value c.loop-digit-test.true c.loop-digit.invariant.so_far (omega arith)
