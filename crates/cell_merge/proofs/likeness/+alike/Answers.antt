use Rattle.std.proofs.Common.{arith}
use Rattle.cell_arena.specs.Decode.{decode}
use Rattle.cell_merge.proofs.Ends.{sequences-alike}
use Rattle.cell_merge.proofs.Shapes.{parts-alike, tuples-alike}
use Rattle.cell_merge.proofs.likeness.+alike.Goals as goal

pub alike_tuples-loop-i-preserved : goal.alike_tuples-loop-i-preserved
alike_tuples-loop-i-preserved t c = λ a.
    parts-alike (decode c.args.arena.now a) c.as_slice-ps.result.now c.as_slice-qs.result.now c.loop-i.i _ c.loop-i-test.true c.if-ps-qs.false (c.loop-i.invariant a) (c.alike.ensures c.if-not-alike.false a)

pub alike_tuples-returns : goal.alike_tuples-returns
alike_tuples-returns t c = λ so a.
    let n = c.if-ps-qs.false in
    tuples-alike c.args.arena.now a c.args.x c.args.y _ _ c.in-Tup.left c.in-Tup-kind.right c.as_slice-ps.result.now c.as_slice-qs.result.now c.loop-i.i (c.kind.ensures.decodes a) (c.kind-2.ensures.decodes a)
    c.in-Tup.is c.in-Tup-kind.is c.as_slice-ps.ensures c.as_slice-qs.ensures c.loop-i-test.false (omega arith) (c.loop-i.invariant a)

pub alike_sequences-loop-i-preserved : goal.alike_sequences-loop-i-preserved
alike_sequences-loop-i-preserved t c = λ a.
    parts-alike (decode c.args.arena.now a) c.as_slice-ps.result.now c.as_slice-qs.result.now c.loop-i.i _ c.loop-i-test.true c.if-ps-qs.false (c.loop-i.invariant a) (c.alike.ensures c.if-not-alike.false a)

pub alike_sequences-returns : goal.alike_sequences-returns
alike_sequences-returns t c = λ so a.
    let n = c.if-ps-qs.false in
    sequences-alike c.args.arena.now a c.args.x c.args.y _ _ c.in-Seq.v c.in-Seq-kind.w c.in-Seq.left c.in-Seq-kind.right c.as_slice-ps.result.now c.as_slice-qs.result.now c.loop-i.i (c.kind.ensures.decodes a) (c.kind-2.ensures.decodes a)
    c.in-Seq.is c.in-Seq-kind.is (rw (← c.lits.ensures, ← c.lits-2.ensures) (c.same_literals.ensures c.if-not-same_literals.false)) c.as_slice-ps.ensures c.as_slice-qs.ensures c.loop-i-test.false (omega arith) (c.loop-i.invariant a)
