use Rattle.std.proofs.Common.{refl, arith}
use Rattle.sat_formula.proofs.Extension.{Satisfies-older}
use Rattle.cell_arena.proofs.Growing.{Grows-trans, Grows-formula, Satisfies-before}
use Rattle.word_blaster.proofs.Words.{WordBelow-later}
use Rattle.sequence_rewriter.proofs.Numbers.{sets-place}
use Rattle.sequence_rewriter.proofs.places.update_place.Goals as goal

pub returns-in_err-places-clause-grows : goal.returns-in_err-places-clause-grows
returns-in_err-places-clause-grows c = Grows-trans _ _ _ (Grows-formula _ _ c.in_ok-index.ensures.grows refl) c.in_err-places.ensures.grows

pub make_sequence-requires-clause-below : goal.make_sequence-requires-clause-below
make_sequence-requires-clause-below c =
    let g = c.in_ok-index.ensures.grows.vars in
    let h = c.in_ok-places.ensures.grows.formula.vars in
    rw c.as_slice.ensures.value (WordBelow-later _ _ c.in_ok-bits.bits.items c.in_ok-bits.ensures.below (omega arith))

pub make_sequence-requires-clause-within : goal.make_sequence-requires-clause-within
make_sequence-requires-clause-within c = λ a s.
    let s1 = Satisfies-before _ _ a c.in_ok-places.ensures.grows s in
    let w = c.in_ok-bits.ensures.within a (Satisfies-older _ _ a c.in_ok-index.ensures.grows s1) in
    let n = c.in_ok-places.ensures.replaces.count in
    rw c.as_slice.ensures.value (omega arith)

pub returns-in_err-id-clause-grows : goal.returns-in_err-id-clause-grows
returns-in_err-id-clause-grows c =
    Grows-trans _ _ _ (Grows-trans _ _ _ (Grows-formula _ _ c.in_ok-index.ensures.grows refl) c.in_ok-places.ensures.grows) c.in_err-id.ensures.grows

pub returns-clause-grows : goal.returns-clause-grows
returns-clause-grows c =
    Grows-trans _ _ _ (Grows-trans _ _ _ (Grows-formula _ _ c.in_ok-index.ensures.grows refl) c.in_ok-places.ensures.grows) c.in_ok-id.ensures.grows

pub returns-clause-sets : goal.returns-clause-sets
returns-clause-sets c =
    sets-place c.args.b.now _ _ _ c.args.s c.args.i c.args.v _ _ _ _ c.requires c.in_ok-bits.ensures c.in_ok-index.ensures.grows refl c.in_ok-index.ensures.index c.in_ok-places.ensures.grows c.in_ok-places.ensures.replaces
    c.in_ok-id.ensures.grows (rw c.as_slice.ensures.value at c.in_ok-id.ensures.made)
