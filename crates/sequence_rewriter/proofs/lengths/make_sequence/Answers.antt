use Rattle.std.proofs.Common.{refl}
use Rattle.cell_arena.proofs.Growing.{Grows-trans, Grows-formula}
use Rattle.sequence_rewriter.proofs.Bits.{within-count, makes-first}
use Rattle.sequence_rewriter.proofs.lengths.make_sequence.Goals as goal

pub seq-requires-clause-within : goal.seq-requires-clause-within
seq-requires-clause-within c = within-count _ _ c.args.bits.now _ _ c.in_ok-count.ensures.grows (rw c.from_vec.ensures c.requires.within) c.in_ok-count.ensures.count

pub returns-in_err-id-clause-grows : goal.returns-in_err-id-clause-grows
returns-in_err-id-clause-grows c = Grows-trans _ _ _ (Grows-formula _ _ c.in_ok-count.ensures.grows refl) c.in_err-id.ensures.grows

pub returns-clause-made : goal.returns-clause-made
returns-clause-made c =
    let r = c.in_ok-id.ensures in
    rw (← c.from_vec.ensures) (makes-first c.args.b.now _ _ _ _ _ _ refl c.in_ok-count.ensures.count r.cell r.grows r.value)
