use Rattle.std.proofs.Common.{arith}
use Rattle.std.proofs.lemmas.Int.{ints}
use Rattle.trace_decoder.proofs.ReadWords.{added, left-out, more-read, negative-number, none-read, other-number, small-read}
use Rattle.trace_decoder.proofs.words.number.Goals as goal
use Rattle.trace_decoder.proofs.words.number.Goals.{then-negative, else-negative}

pub loop-l-init : goal.loop-l-init
loop-l-init c = none-read c.args.word.now c.args.a.now

pub overflow_add-sum : goal.overflow_add-sum
overflow_add-sum c =
    let s = small-read c.args.word.now c.args.a.now c.loop-l.l-index _ _ c.loop-l.negative (omega arith) c.requires c.loop-l.invariant in
    omega (arith, s)

pub loop-l-preserved : goal.loop-l-preserved
loop-l-preserved c =
    more-read c.args.word.now c.args.a.now c.loop-l.l-index c.loop-l.sum c.loop-l.place c.if-negative.sum c.loop-l.negative c.is_true-negative.result _ (omega arith)
    c.loop-l.invariant c.is_true-negative.ensures (elim c.if-negative.branch [
      | then-negative w ↦ added c.loop-l.sum c.loop-l.place c.if-negative.sum c.is_true-negative.result w.if-negative.true w.sum-is
      | else-negative w ↦ left-out c.loop-l.sum c.loop-l.place c.if-negative.sum c.is_true-negative.result w.if-negative.false w.sum-is
    ])

pub overflow_cast-result : goal.overflow_cast-result
overflow_cast-result c =
    let s = small-read c.args.word.now c.args.a.now c.loop-l.l-index _ _ c.loop-l.negative (omega arith) c.requires c.loop-l.invariant in
    omega (arith, ints, s)

pub overflow_sub-result : goal.overflow_sub-result
overflow_sub-result c =
    let s = small-read c.args.word.now c.args.a.now c.loop-l.l-index _ _ c.loop-l.negative (omega arith) c.requires c.loop-l.invariant in
    omega (arith, ints, s)

pub overflow_cast-result-else-negative-2 : goal.overflow_cast-result-else-negative-2
overflow_cast-result-else-negative-2 c =
    let s = small-read c.args.word.now c.args.a.now c.loop-l.l-index _ _ c.loop-l.negative (omega arith) c.requires c.loop-l.invariant in
    omega (arith, ints, s)

pub returns-then-negative-2 : goal.returns-then-negative-2
returns-then-negative-2 c =
    negative-number c.args.word.now c.args.a.now c.loop-l.l-index c.loop-l.sum c.loop-l.place c.loop-l.negative (omega arith) (omega arith) c.requires c.loop-l.invariant c.if-negative-2.true

pub returns-else-negative-2 : goal.returns-else-negative-2
returns-else-negative-2 c =
    other-number c.args.word.now c.args.a.now c.loop-l.l-index c.loop-l.sum c.loop-l.place c.loop-l.negative (omega arith) (omega arith) c.requires c.loop-l.invariant c.if-negative-2.false
