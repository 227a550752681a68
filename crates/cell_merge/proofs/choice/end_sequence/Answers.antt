use Rattle.std.proofs.Common.{refl, sym, ◌∙◌}
use Rattle.cell_arena.proofs.Growing.{Grows-trans, Grows-formula}
use Rattle.cell_merge.proofs.Ends.{lengths-alike, places-there, length-chosen, ends-sequence}
use Rattle.cell_merge.proofs.choice.end_sequence.Goals as goal

pub choose_word-requires-clause-words : goal.choose_word-requires-clause-words
choose_word-requires-clause-words c = lengths-alike c.args.b.now.arena c.args.b.now.formula _ _ _ _ _ _ _ _ c.args.b.now.fits c.kind.ensures.held c.kind-2.ensures.held c.in-Seq.is c.in-Seq-kind.is

pub seq-requires-clause-older : goal.seq-requires-clause-older
seq-requires-clause-older c =
    places-there c.args.b.now _ _ _ _ _ _ _ _ c.requires.begins (sym c.kind.ensures.same ∙ c.in-Seq.is) (sym c.kind-2.ensures.same ∙ c.in-Seq-kind.is)
    (rw (c.in_ok-extend_from_slice.ensures.items, c.behind.ensures, c.behind-2.ensures, c.as_slice.ensures, c.as_slice-2.ensures, c.as_slice-done.ensures.value) at (c.from_vec.ensures ∙ c.in_ok-extend_from_slice-2.ensures.items))

pub seq-requires-clause-within : goal.seq-requires-clause-within
seq-requires-clause-within c =
    let b = c.args.b.now in
    length-chosen b.arena b.formula _ _ c.args.x c.args.y _ _ _ _ _ _ _ (record { fits = b.fits; built = b.built; ranges = b.ranges }) c.in_ok-count.ensures.grows c.requires.begins.types
    (sym c.kind.ensures.same ∙ c.in-Seq.is) (sym c.kind-2.ensures.same ∙ c.in-Seq-kind.is)
    (rw (c.in_ok-extend_from_slice.ensures.items, c.behind.ensures, c.behind-2.ensures, c.as_slice.ensures, c.as_slice-2.ensures, c.as_slice-done.ensures.value) at (c.from_vec.ensures ∙ c.in_ok-extend_from_slice-2.ensures.items))
    c.in_ok-count.ensures.value

pub returns-in_err-id-clause-grows : goal.returns-in_err-id-clause-grows
returns-in_err-id-clause-grows c = Grows-trans _ _ _ (Grows-formula _ _ c.in_ok-count.ensures.grows refl) c.in_err-id.ensures.grows

pub returns-clause-ends : goal.returns-clause-ends
returns-clause-ends c =
    let r = c.in_ok-id.ensures in
    ends-sequence c.args.b.now _ _ _ _ _ _ _ _ c.requires.begins (sym c.kind.ensures.same ∙ c.in-Seq.is) (sym c.kind-2.ensures.same ∙ c.in-Seq-kind.is)
    (rw (c.in_ok-extend_from_slice.ensures.items, c.behind.ensures, c.behind-2.ensures, c.as_slice.ensures, c.as_slice-2.ensures, c.as_slice-done.ensures.value) at (c.from_vec.ensures ∙ c.in_ok-extend_from_slice-2.ensures.items))
    _ _ _ _ _ refl c.in_ok-count.ensures.value r.cell r.grows r.value
