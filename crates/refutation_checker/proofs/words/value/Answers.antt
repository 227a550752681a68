use Rattle.std.proofs.Common.{◌<◌, ◌^◌, arith, inl, inr}
use Rattle.refutation_checker.proofs.Numbers.{value_fits, value_more, digits_one_more, no_digit}
use Rattle.refutation_checker.proofs.words.value.Goals as goal
use Rattle.refutation_checker.proofs.words.value.Goals.{then-b-lt48-via-then-b-lt48, then-b-lt48-via-else-b-lt48+then-b-gt57}

pub returns-then-b-lt48 : goal.returns-then-b-lt48
returns-then-b-lt48 c = elim c.then-b-lt48.branch [
  | then-b-lt48-via-then-b-lt48 w ↦ no_digit c.args.word.now c.loop-b.b-index c.loop-b-test.true (inl w.if-b-lt48.true)
  | then-b-lt48-via-else-b-lt48+then-b-gt57 w ↦ no_digit c.args.word.now c.loop-b.b-index c.loop-b-test.true (inr w.if-b-gt57.true)
]

pub overflow_mul-n : goal.overflow_mul-n
overflow_mul-n c =
    let small : c.loop-b.n < 10 ^ 18 = value_fits c.args.word.now c.loop-b.b-index c.loop-b.n c.requires c.loop-b-test.true c.loop-b.invariant.digits c.loop-b.invariant.value in
    omega arith

pub overflow_add-n : goal.overflow_add-n
overflow_add-n c =
    let small : c.loop-b.n < 10 ^ 18 = value_fits c.args.word.now c.loop-b.b-index c.loop-b.n c.requires c.loop-b-test.true c.loop-b.invariant.digits c.loop-b.invariant.value in
    omega arith

pub loop-b-preserved : goal.loop-b-preserved
loop-b-preserved c = record {
  digits = digits_one_more _ _ c.loop-b-test.true c.loop-b.invariant.digits (omega arith) (omega arith);
  value = value_more c.args.word.now c.loop-b.b-index c.loop-b.n c.from.result c.loop-b-test.true c.loop-b.invariant.value (omega arith) (omega arith);
}
