use Rattle.std.proofs.Common.{refl, ap, length, arith}
use Rattle.cell_arena.proofs.Growing.{Grows-trans, Grows-formula}
use Rattle.cell_merge.proofs.SortLaws.{sort-sequence}
use Rattle.sequence_rewriter.proofs.Bits.{within-count}
use Rattle.function_tests.proofs.Counted.{within-places}
use Rattle.function_tests.proofs.sequences.counted.Goals as goal

pub seq-requires-clause-within : goal.seq-requires-clause-within
seq-requires-clause-within c =
    within-count _ _ c.args.bits.now _ _ c.in_ok-count.ensures.grows (λ a s. within-places c.args.bits.now a _ _ c.power-most.ensures
    (let p = ap length c.as_slice-room.ensures.value in let q = ap length c.from_vec.ensures in let r = c.if-room-most.false in omega arith)) c.in_ok-count.ensures.count

pub returns-in_err-id-clause-grows : goal.returns-in_err-id-clause-grows
returns-in_err-id-clause-grows c = Grows-trans _ _ _ (Grows-formula _ _ c.in_ok-count.ensures.grows refl) c.in_err-id.ensures.grows

pub returns-clause-sort : goal.returns-clause-sort
returns-clause-sort c = λ t all. sort-sequence _ _ _ _ t _ c.in_ok-id.ensures.cell c.in_ok-id.ensures.grows (rw c.from_vec.ensures all)
