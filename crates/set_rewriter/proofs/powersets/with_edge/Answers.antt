use Rattle.std.proofs.Common.{refl, sym, ap, ◌∙◌, List, [], ◌∷◌, ◌++◌}
use Rattle.sat_formula.specs.declared.lit.Lit.{Lit}
use Rattle.cell_arena.specs.declared.kinds.CellId.{CellId}
use Rattle.cell_arena.specs.Decode.{decode, kind_value}
use Rattle.cell_merge.proofs.Edges.{edges-sort}
use Rattle.set_rewriter.proofs.Powers.{with-edge, edges-and-edge}
use Rattle.set_rewriter.proofs.powersets.with_edge.Goals as goal

pub set-requires-clause-older : goal.set-requires-clause-older
set-requires-clause-older c =
    let pushed = c.from_vec.ensures ∙ c.in_ok-push.ensures.items ∙ ap (λ (l : List (Lit × CellId)). l ++ c.args.edge ∷ []) (c.in_ok-edges.ensures.items ∙ c.as_slice.ensures) in
    edges-and-edge c.args.b.now c.args.cell c.args.edge _ c.in-Set.es _ c.requires c.kind.ensures.same c.in-Set.is pushed

pub returns-clause-with : goal.returns-clause-with
returns-clause-with c =
    let b = c.args.b.now in
    let pushed = c.from_vec.ensures ∙ c.in_ok-push.ensures.items ∙ ap (λ (l : List (Lit × CellId)). l ++ c.args.edge ∷ []) (c.in_ok-edges.ensures.items ∙ c.as_slice.ensures) in
    with-edge b _ _ c.args.edge c.args.cell _ c.in-Set.es _ refl c.in_ok-id.ensures.grows pushed c.in_ok-id.ensures.cell c.in_ok-id.ensures.value
    (λ a. c.kind.ensures.decodes a ∙ ap (kind_value b.arena.texts a (decode b.arena a)) c.in-Set.is) (λ s h. edges-sort b.arena.kinds s c.args.cell c.in-Set.es h (sym c.kind.ensures.same ∙ c.in-Set.is))
