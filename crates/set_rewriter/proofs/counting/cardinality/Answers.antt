use Rattle.std.proofs.Common.{refl, ap, ◌∙◌}
use Rattle.cell_arena.specs.Decode.{decode, kind_value}
use Rattle.cell_arena.proofs.Growing.{Grows-trans, Grows-formula}
use Rattle.set_rewriter.proofs.Sizes.{counted}
use Rattle.set_rewriter.proofs.counting.cardinality.Goals as goal

pub returns-in_err-id-clause-grows : goal.returns-in_err-id-clause-grows
returns-in_err-id-clause-grows c = Grows-trans _ _ _ (Grows-formula _ _ c.in_ok-word.ensures.grows refl) c.in_err-id.ensures.grows

pub returns-clause-counts : goal.returns-clause-counts
returns-clause-counts c =
    let b = c.args.b.now in
    counted b _ _ c.args.set _ _ _ _ c.in-Set.es c.width-width.ensures.same c.in_ok-id.ensures.grows (rw c.as_slice.ensures at c.in_ok-word.ensures.exact)
    (λ a. c.kind.ensures.decodes a ∙ ap (kind_value b.arena.texts a (decode b.arena a)) c.in-Set.is) c.in_ok-id.ensures.cell c.in_ok-id.ensures.value
