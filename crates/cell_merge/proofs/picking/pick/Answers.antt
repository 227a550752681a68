use Rattle.std.proofs.Common.{refl, sym, ap, ◌∙◌}
use Rattle.cell_arena.specs.Decode.{decode, kind_value}
use Rattle.cell_arena.proofs.Growing.{Grows-trans, Grows-formula}
use Rattle.cell_merge.proofs.Edges.{edges-sort}
use Rattle.cell_merge.proofs.Unions.{edges-named}
use Rattle.cell_merge.proofs.Layering.{picked, narrows-more, narrows-joined}
use Rattle.cell_merge.proofs.picking.pick.Goals as goal

pub returns-in_err-l-clause-grows : goal.returns-in_err-l-clause-grows
returns-in_err-l-clause-grows c = Grows-trans _ _ _ (Grows-formula _ _ c.in_ok-edges.ensures.grows refl) c.in_err-l.ensures.grows

pub returns-clause-grows : goal.returns-clause-grows
returns-clause-grows c = Grows-trans _ _ _ (Grows-formula _ _ c.in_ok-edges.ensures.grows refl) c.in_ok-l.ensures.grows

pub returns-clause-picks : goal.returns-clause-picks
returns-clause-picks c =
    let b = c.args.b.now in
    let joins = rw c.as_slice.ensures at c.in_ok-edges.ensures.joins in
    let named = edges-named b.arena _ _ _ c.in-Set.es c.kind.ensures.held c.in-Set.is b.fits in
    picked b _ c.args.set c.in-Set.es _ (λ a. c.kind.ensures.decodes a ∙ ap (kind_value b.arena.texts a (decode b.arena a)) c.in-Set.is)
    (narrows-more b _ _ c.in-Set.es _ _ c.in_ok-l.ensures.grows (narrows-joined b _ c.in-Set.es _ refl c.in_ok-edges.ensures.grows named joins) c.in_ok-l.ensures.narrows)
    (λ s h. edges-sort b.arena.kinds s c.args.set c.in-Set.es h (sym c.kind.ensures.same ∙ c.in-Set.is))
