use Rattle.std.proofs.Common.{ap, length, arith}
use Rattle.sequence_rewriter.proofs.Bits.{within-count}
use Rattle.row_tests.proofs.Counted.{within-places}
use Rattle.row_tests.proofs.sequences.counted.Goals as goal

pub seq-requires-clause-within : goal.seq-requires-clause-within
seq-requires-clause-within c =
    let p = ap length c.as_slice-room.ensures.value in
    let q = ap length c.from_vec.ensures in
    let r = c.if-room-most.false in
    within-count _ _ c.args.bits.now _ _ c.in_ok-count.ensures.grows
    (λ a s. within-places c.args.bits.now a _ _ c.power-most.ensures (omega arith)) c.in_ok-count.ensures.count
