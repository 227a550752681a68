use Rattle.std.proofs.Common.{refl, sym, ap, ◌∙◌}
use Rattle.cell_arena.specs.Decode.{decode, kind_value}
use Rattle.cell_arena.proofs.Growing.{Grows-trans, Grows-formula}
use Rattle.cell_merge.specs.Sorts.{set_of as set_sort}
use Rattle.cell_merge.proofs.Edges.{edges-sort}
use Rattle.cell_merge.proofs.Chosen.{lead-there}
use Rattle.set_rewriter.proofs.Made.{makes-of}
use Rattle.set_rewriter.proofs.Gathering.{inside-set}
use Rattle.set_rewriter.proofs.unions.big_union.Goals as goal

pub set-requires-clause-older : goal.set-requires-clause-older
set-requires-clause-older c =
    let b = c.args.b.now in
    let r = c.requires in
    let i = rw (c.as_slice.ensures, ← c.from_vec.ensures) at c.in_ok-edges.ensures.inside in
    lead-there _ r.sort _ (i.sorts r.sort (edges-sort b.arena.kinds (set_sort r.sort) c.args.set c.in-Set.es r.is (sym c.kind.ensures.same ∙ c.in-Set.is)))

pub returns-in_err-id-clause-grows : goal.returns-in_err-id-clause-grows
returns-in_err-id-clause-grows c = Grows-trans _ _ _ (Grows-formula _ _ c.in_ok-edges.ensures.grows refl) c.in_err-id.ensures.grows

pub returns-clause-made : goal.returns-clause-made
returns-clause-made c =
    let b = c.args.b.now in
    let i = rw (c.as_slice.ensures, ← c.from_vec.ensures) at c.in_ok-edges.ensures.inside in
    makes-of b _ _ _ _ _ refl c.in_ok-id.ensures.grows c.in_ok-id.ensures.cell c.in_ok-id.ensures.value
    (λ a s. inside-set b.arena _ a c.args.set c.in-Set.es _ i s (c.kind.ensures.decodes a ∙ ap (kind_value b.arena.texts a (decode b.arena a)) c.in-Set.is))
    c.args.set (λ s. set_sort (set_sort s)) (λ s. s) (λ s h. i.sorts s (edges-sort b.arena.kinds (set_sort s) c.args.set c.in-Set.es h (sym c.kind.ensures.same ∙ c.in-Set.is)))
