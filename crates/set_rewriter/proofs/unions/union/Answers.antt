use Rattle.std.proofs.Common.{refl, sym, ap, ◌∙◌}
use Rattle.cell_arena.specs.Decode.{decode, kind_value}
use Rattle.cell_arena.proofs.Growing.{Grows-trans, Grows-formula}
use Rattle.cell_merge.proofs.Edges.{edges-sort}
use Rattle.cell_merge.proofs.Chosen.{lead-there}
use Rattle.set_rewriter.proofs.Made.{made}
use Rattle.set_rewriter.proofs.Uniting.{united}
use Rattle.set_rewriter.proofs.unions.union.Goals as goal

pub set-requires-clause-older : goal.set-requires-clause-older
set-requires-clause-older c =
    let b = c.args.b.now in
    let t = c.requires in
    let m = rw (c.as_slice.ensures, c.as_slice-2.ensures, ← c.from_vec.ensures) at c.in_ok-edges.ensures.merges in
    let left = edges-sort b.arena.kinds t.sort c.args.x c.in-Set.es t.left (sym c.kind.ensures.same ∙ c.in-Set.is) in
    let right = edges-sort b.arena.kinds t.sort c.args.y c.in-Set-kind.fs t.right (sym c.kind-2.ensures.same ∙ c.in-Set-kind.is) in
    lead-there _ t.sort _ (m.sorts t.sort left right)

pub returns-in_err-id-clause-grows : goal.returns-in_err-id-clause-grows
returns-in_err-id-clause-grows c = Grows-trans _ _ _ (Grows-formula _ _ c.in_ok-edges.ensures.grows refl) c.in_err-id.ensures.grows

pub returns-clause-made : goal.returns-clause-made
returns-clause-made c =
    let b = c.args.b.now in
    let m = rw (c.as_slice.ensures, c.as_slice-2.ensures, ← c.from_vec.ensures) at c.in_ok-edges.ensures.merges in
    made b _ _ c.args.x c.args.y _ _ _ refl c.in_ok-id.ensures.grows c.in_ok-id.ensures.cell c.in_ok-id.ensures.value
    (λ s h k. m.sorts s (edges-sort b.arena.kinds s c.args.x c.in-Set.es h (sym c.kind.ensures.same ∙ c.in-Set.is))
    (edges-sort b.arena.kinds s c.args.y c.in-Set-kind.fs k (sym c.kind-2.ensures.same ∙ c.in-Set-kind.is)))
    (λ a s.
    let value = kind_value b.arena.texts a (decode b.arena a) in
    united b.arena _ a c.args.x c.args.y _ _ _ m s (c.kind.ensures.decodes a ∙ ap value c.in-Set.is) (c.kind-2.ensures.decodes a ∙ ap value c.in-Set-kind.is))
