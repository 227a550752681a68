use Rattle.std.proofs.Common.{refl, ap, arith, length, List, ◌<◌}
use Rattle.std.proofs.lemmas.List.{length-drop}
use Rattle.std.proofs.lemmas.List.Elements.{All-drop}
use Rattle.sat_formula.specs.declared.lit.Lit.{Lit}
use Rattle.word_blaster.specs.Word.{number, values}
use Rattle.sat_formula.proofs.Extension.{Satisfies-older}
use Rattle.cell_arena.specs.declared.kinds.CellId.{CellId}
use Rattle.cell_arena.proofs.Growing.{Grows-trans, Grows-formula}
use Rattle.sequence_rewriter.specs.inner.Lengths.{places_of}
use Rattle.sequence_rewriter.proofs.Bits.{places-there, rest-part}
use Rattle.sequence_rewriter.proofs.ends.rest.Goals as goal

pub make_sequence-requires-clause-within : goal.make_sequence-requires-clause-within
make_sequence-requires-clause-within c = λ a s.
    let m = c.in_ok-empty.ensures.less.value a s in
    let w = c.in_ok-bits.ensures.within a (Satisfies-older _ _ a c.in_ok-empty.ensures.grows s) in
    let n = ap (λ (ps : List CellId). length ps) c.in_ok-places.ensures in
    let k = length-drop 1 (places_of c.args.b.now.arena c.args.s) in
    let e = ap (λ (bits : List Lit). number (values bits a)) c.as_slice.ensures.value in
    rw c.as_slice-2.ensures.value (omega arith)

pub make_sequence-requires-clause-older : goal.make_sequence-requires-clause-older
make_sequence-requires-clause-older c =
    rw c.in_ok-places.ensures (All-drop (λ (p : CellId). p.index < length c.args.b.now.arena.kinds) 1 (places_of c.args.b.now.arena c.args.s) (places-there c.args.b.now c.args.s c.requires))

pub returns-in_err-id-clause-grows : goal.returns-in_err-id-clause-grows
returns-in_err-id-clause-grows c = Grows-trans _ _ _ (Grows-formula _ _ c.in_ok-empty.ensures.grows refl) c.in_err-id.ensures.grows

pub returns-clause-grows : goal.returns-clause-grows
returns-clause-grows c = Grows-trans _ _ _ (Grows-formula _ _ c.in_ok-empty.ensures.grows refl) c.in_ok-id.ensures.grows

pub returns-clause-part : goal.returns-clause-part
returns-clause-part c =
    rest-part c.args.b.now _ _ _ _ _ _ _ _ c.requires c.in_ok-bits.ensures c.in_ok-empty.ensures.grows refl (rw c.as_slice.ensures.value at c.in_ok-empty.ensures.less) c.in_ok-places.ensures
    c.in_ok-id.ensures.grows (rw c.as_slice-2.ensures.value at c.in_ok-id.ensures.made)
