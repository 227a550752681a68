use Rattle.std.proofs.Common.{refl, sym, ap, ◌∙◌}
use Rattle.cell_arena.specs.Decode.{decode, kind_value}
use Rattle.cell_arena.proofs.Growing.{Grows-trans, Grows-formula}
use Rattle.set_rewriter.proofs.Freedom.{picks-subset}
use Rattle.set_rewriter.proofs.powersets.pick_subset.Goals as goal

pub returns-in_err-id-clause-grows : goal.returns-in_err-id-clause-grows
returns-in_err-id-clause-grows c = Grows-trans _ _ _ (Grows-formula _ _ c.in_ok-keep.ensures.grows refl) c.in_err-id.ensures.grows

pub returns-clause-grows : goal.returns-clause-grows
returns-clause-grows c = Grows-trans _ _ _ (Grows-formula _ _ c.in_ok-keep.ensures.grows refl) c.in_ok-id.ensures.grows

pub returns-clause-picks : goal.returns-clause-picks
returns-clause-picks c =
    let b = c.args.b.now in
    picks-subset b _ _ c.args.set _ c.in-Set.es _ refl c.requires.is.0 (sym c.kind.ensures.same ∙ c.in-Set.is)
    (λ a. c.kind.ensures.decodes a ∙ ap (kind_value b.arena.texts a (decode b.arena a)) c.in-Set.is)
    (rw c.len.ensures at c.in_ok-keep.ensures.bits) c.in_ok-id.ensures.grows (rw c.as_slice.ensures.value at c.in_ok-id.ensures.made)
