use Rattle.std.proofs.Common.{refl}
use Rattle.cell_arena.proofs.Growing.{Grows-trans, Grows-formula}
use Rattle.word_blaster.proofs.Words.{WordBelow-later}
use Rattle.sequence_rewriter.proofs.Counted.{counted-older, domain-cell}
use Rattle.sequence_rewriter.proofs.domains.seq_domain.Goals as goal

pub counted_edges-requires : goal.counted_edges-requires
counted_edges-requires c = rw c.as_slice-2.ensures.value (WordBelow-later _ _ c.in_ok-bits.bits.items c.in_ok-bits.ensures.below c.in_ok-outside.ensures.grows.vars)

pub returns-in_err-edges-clause-grows : goal.returns-in_err-edges-clause-grows
returns-in_err-edges-clause-grows c = Grows-trans _ _ _ (Grows-formula _ _ c.in_ok-outside.ensures.grows refl) c.in_err-edges.ensures.grows

pub returns-in_err-id-clause-grows : goal.returns-in_err-id-clause-grows
returns-in_err-id-clause-grows c = Grows-trans _ _ _ (Grows-trans _ _ _ (Grows-formula _ _ c.in_ok-outside.ensures.grows refl) c.in_ok-edges.ensures.grows) c.in_err-id.ensures.grows

pub returns-clause-grows : goal.returns-clause-grows
returns-clause-grows c = Grows-trans _ _ _ (Grows-trans _ _ _ (Grows-formula _ _ c.in_ok-outside.ensures.grows refl) c.in_ok-edges.ensures.grows) c.in_ok-id.ensures.grows

pub set-requires-clause-older : goal.set-requires-clause-older
set-requires-clause-older c = counted-older _ _ _ _ _ c.in_ok-edges.ensures.edges c.from_vec.ensures

pub set-requires-clause-named : goal.set-requires-clause-named
set-requires-clause-named c = rw c.from_vec.ensures c.in_ok-edges.ensures.edges.named

pub returns-clause-domain : goal.returns-clause-domain
returns-clause-domain c =
    let r = c.in_ok-id.ensures in
    domain-cell c.args.b.now _ _ _ _ _ _ c.in_ok-bits.bits.items _ _ _ _ c.width-width.ensures.same refl c.in_ok-bits.ensures c.in_ok-outside.ensures.grows (rw c.as_slice.ensures.value at c.in_ok-outside.ensures.exact)
    c.in_ok-edges.ensures.grows (rw (c.as_slice-2.ensures.value, c.part_count-count.ensures) at c.in_ok-edges.ensures.edges) c.from_vec.ensures r.cell r.grows r.value
