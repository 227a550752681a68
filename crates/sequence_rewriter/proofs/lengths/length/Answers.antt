use Rattle.std.proofs.Common.{refl}
use Rattle.cell_arena.proofs.Growing.{Grows-trans, Grows-formula}
use Rattle.sequence_rewriter.proofs.Bits.{length-cell}
use Rattle.sequence_rewriter.proofs.lengths.length.Goals as goal

pub returns-in_err-id-clause-grows : goal.returns-in_err-id-clause-grows
returns-in_err-id-clause-grows c = Grows-trans _ _ _ (Grows-formula _ _ c.in_ok-word.ensures.grows refl) c.in_err-id.ensures.grows

pub returns-clause-length : goal.returns-clause-length
returns-clause-length c =
    let r = c.in_ok-id.ensures in
    length-cell c.args.b.now _ _ _ _ _ _ _ _ c.width-width.ensures.same c.in_ok-bits.ensures c.in_ok-word.ensures.grows (rw c.as_slice.ensures.value at c.in_ok-word.ensures.exact) r.cell r.grows r.value
