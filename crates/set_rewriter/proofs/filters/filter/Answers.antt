use Rattle.std.proofs.Common.{refl, sym, ap, ◌∙◌}
use Rattle.cell_arena.specs.declared.kinds.CellKind.{CellKind}
use Rattle.cell_arena.specs.Decode.{decode}
use Rattle.cell_arena.proofs.Growing.{Grows-trans, Grows-formula}
use Rattle.cell_merge.proofs.Edges.{edges-sort}
use Rattle.cell_merge.proofs.Chosen.{lead-there}
use Rattle.tla_values.specs.Sets.{set_of}
use Rattle.cell_merge.specs.Edges.{edges_of}
use Rattle.set_rewriter.specs.Edges.{kept}
use Rattle.set_rewriter.proofs.Made.{made, set-found}
use Rattle.set_rewriter.proofs.filters.filter.Goals as goal

pub set-requires-clause-older : goal.set-requires-clause-older
set-requires-clause-older c =
    let b = c.args.b.now in
    let r = c.requires.set in
    let cells = edges-sort b.arena.kinds r.sort c.args.set c.in-Set.es r.is (sym c.kind.ensures.same ∙ c.in-Set.is) in
    rw c.from_vec.ensures (lead-there _ r.sort _ (c.in_ok-out.ensures.keeps.sorts _ r.sort (rw c.as_slice.ensures cells)))

pub returns-in_err-id-clause-grows : goal.returns-in_err-id-clause-grows
returns-in_err-id-clause-grows c = Grows-trans _ _ _ (Grows-formula _ _ c.in_ok-out.ensures.grows refl) c.in_err-id.ensures.grows

pub returns-clause-made : goal.returns-clause-made
returns-clause-made c =
    let b = c.args.b.now in
    let is = sym c.kind.ensures.same ∙ c.in-Set.is in
    made b _ _ c.args.set c.args.set _ _ _ refl c.in_ok-id.ensures.grows c.in_ok-id.ensures.cell c.in_ok-id.ensures.value
    (λ s h k. rw c.from_vec.ensures (c.in_ok-out.ensures.keeps.sorts _ s (rw c.as_slice.ensures (edges-sort b.arena.kinds s c.args.set c.in-Set.es h is))))
    (λ a s.
    let of = decode b.arena a in
    set-found a of _ (kept a of c.in-Set.es c.args.keep.now) (rw (c.from_vec.ensures, ← c.as_slice.ensures) (c.in_ok-out.ensures.keeps.members a s of))
    ∙ ap (λ (k : CellKind). set_of (kept a of (edges_of k) c.args.keep.now)) (sym is))
