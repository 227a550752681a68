use Rattle.std.proofs.Common.{◌+◌, refl, ◌∙◌, sym, arith}
use Rattle.cell_merge.proofs.Edges.{left-there, right-there, one-bit, one-word, one-text, one-set, one-function, one-sequence}
use Rattle.cell_merge.proofs.Chosen.{chosen-first, chosen-second, chosen-alike, chosen-bit, chosen-word, chosen-text, code-chosen}
use Rattle.cell_arena.proofs.Growing.{Grows-trans, Grows-formula}
use Rattle.cell_merge.proofs.Names.{words-alike, texts-alike}
use Rattle.cell_merge.proofs.Ends.{sequence-parts, begins-places, chosen-sequence}
use Rattle.cell_merge.proofs.Fronts.{result-types, arrow-chosen, front-fewer, arrows-chosen-more, begins-both, chosen-function}
use Rattle.cell_merge.proofs.Shapes.{part-types-of, composite-parts, parts-fewer, parts-chosen-more, chosen-fits, chosen-composite}
use Rattle.cell_merge.proofs.choice.+choose.Goals as goal

pub choose_cell-alike-requires-clause-x_there : goal.choose_cell-alike-requires-clause-x_there
choose_cell-alike-requires-clause-x_there t c = left-there _ _ _ c.requires.types

pub choose_cell-alike-requires-clause-y_there : goal.choose_cell-alike-requires-clause-y_there
choose_cell-alike-requires-clause-y_there t c = right-there _ _ _ c.requires.types

pub choose_cell-returns-in-Some-true-clause-chosen : goal.choose_cell-returns-in-Some-true-clause-chosen
choose_cell-returns-in-Some-true-clause-chosen t c = chosen-first c.args.b.now _ _ _ _ refl refl (left-there _ _ _ c.requires.types) (λ a s. c.in-Some-true.ensures.value a s ∙ c.in-Some-true.field-0-test)

pub choose_cell-returns-in-Some-false-clause-chosen : goal.choose_cell-returns-in-Some-false-clause-chosen
choose_cell-returns-in-Some-false-clause-chosen t c = chosen-second c.args.b.now _ _ _ _ refl refl (right-there _ _ _ c.requires.types) (λ a s. c.in-Some-false.ensures.value a s ∙ c.in-Some-false.field-0-test)

pub choose_cell-returns-then-alike-clause-chosen : goal.choose_cell-returns-then-alike-clause-chosen
choose_cell-returns-then-alike-clause-chosen t c = chosen-alike c.args.b.now _ _ _ _ refl refl (left-there _ _ _ c.requires.types) (c.alike.ensures c.if-alike.true)

pub choose_part-kind-requires : goal.choose_part-kind-requires
choose_part-kind-requires t c = left-there _ _ _ c.requires.types

pub choose_part-kind-requires-in-Bit : goal.choose_part-kind-requires-in-Bit
choose_part-kind-requires-in-Bit t c = right-there _ _ _ c.requires.types

pub choose_part-returns-in_err-id-in-Bit-clause-grows : goal.choose_part-returns-in_err-id-in-Bit-clause-grows
choose_part-returns-in_err-id-in-Bit-clause-grows t c = Grows-trans _ _ _ (Grows-formula _ _ c.in_ok-bit-in-Bit.ensures.grows refl) c.in_err-id-in-Bit.ensures.grows

pub choose_part-returns-in-Bit-kind-clause-chosen : goal.choose_part-returns-in-Bit-kind-clause-chosen
choose_part-returns-in-Bit-kind-clause-chosen t c =
    let r = c.in_ok-id-in-Bit.ensures in
    chosen-bit c.args.b.now _ _ _ _ _ _ _ _ _ _ refl c.kind.ensures.decodes c.kind-in-Bit.ensures.decodes c.kind.ensures.same c.kind-in-Bit.ensures.same r.cell r.value r.grows
    _ _ _ c.in-Bit.is c.in-Bit-kind.is refl refl c.in_ok-bit-in-Bit.ensures.value

pub choose_part-kind-requires-in-Word : goal.choose_part-kind-requires-in-Word
choose_part-kind-requires-in-Word t c = right-there _ _ _ c.requires.types

pub choose_part-choose_word-requires-clause-words : goal.choose_part-choose_word-requires-clause-words
choose_part-choose_word-requires-clause-words t c =
    let b = c.args.b.now in
    words-alike _ _ _ _ _ _ _ _ (record { fits = b.fits; built = b.built; ranges = b.ranges }) c.kind.ensures.held c.kind-in-Word.ensures.held c.in-Word.is c.in-Word-kind.is

pub choose_part-returns-in_err-id-in-Word-clause-grows : goal.choose_part-returns-in_err-id-in-Word-clause-grows
choose_part-returns-in_err-id-in-Word-clause-grows t c = Grows-trans _ _ _ (Grows-formula _ _ c.in_ok-word-in-Word.ensures.grows refl) c.in_err-id-in-Word.ensures.grows

pub choose_part-returns-in-Word-kind-clause-chosen : goal.choose_part-returns-in-Word-kind-clause-chosen
choose_part-returns-in-Word-kind-clause-chosen t c =
    let r = c.in_ok-id-in-Word.ensures in
    chosen-word c.args.b.now _ _ _ _ _ _ _ _ _ _ refl c.kind.ensures.decodes c.kind-in-Word.ensures.decodes c.kind.ensures.same c.kind-in-Word.ensures.same r.cell r.value r.grows
    _ _ _ c.in-Word.is c.in-Word-kind.is refl refl c.in_ok-word-in-Word.ensures.value

pub choose_part-kind-requires-in-Text : goal.choose_part-kind-requires-in-Text
choose_part-kind-requires-in-Text t c = right-there _ _ _ c.requires.types

pub choose_part-choose_word-requires-in-Text-kind-clause-words : goal.choose_part-choose_word-requires-in-Text-kind-clause-words
choose_part-choose_word-requires-in-Text-kind-clause-words t c =
    let b = c.args.b.now in
    texts-alike _ _ _ _ _ _ _ _ (record { fits = b.fits; built = b.built; ranges = b.ranges }) c.kind.ensures.held c.kind-in-Text.ensures.held c.in-Text.is c.in-Text-kind.is

pub choose_part-text-requires-clause-index : goal.choose_part-text-requires-clause-index
choose_part-text-requires-clause-index t c =
    let b = c.args.b.now in
    code-chosen b.arena b.formula _ c.args.l c.args.x c.args.y _ _ _ (record { fits = b.fits; built = b.built; ranges = b.ranges }) c.in_ok-code-in-Text.ensures.grows c.requires.types
    (sym c.kind.ensures.same ∙ c.in-Text.is) (sym c.kind-in-Text.ensures.same ∙ c.in-Text-kind.is) c.in_ok-code-in-Text.ensures.value

pub choose_part-returns-in_err-id-in-Text-clause-grows : goal.choose_part-returns-in_err-id-in-Text-clause-grows
choose_part-returns-in_err-id-in-Text-clause-grows t c = Grows-trans _ _ _ (Grows-formula _ _ c.in_ok-code-in-Text.ensures.grows refl) c.in_err-id-in-Text.ensures.grows

pub choose_part-returns-in-Text-kind-clause-chosen : goal.choose_part-returns-in-Text-kind-clause-chosen
choose_part-returns-in-Text-kind-clause-chosen t c =
    let r = c.in_ok-id-in-Text.ensures in
    chosen-text c.args.b.now _ _ _ _ _ _ _ _ _ _ refl c.kind.ensures.decodes c.kind-in-Text.ensures.decodes c.kind.ensures.same c.kind-in-Text.ensures.same r.cell r.value r.grows
    _ _ _ c.in-Text.is c.in-Text-kind.is refl refl c.in_ok-code-in-Text.ensures.value

pub choose_part-returns-in_default : goal.choose_part-returns-in_default
choose_part-returns-in_default t c = absurd (one-bit _ _ _ c.requires.types _ (sym c.kind.ensures.same ∙ c.in-Bit.is) (λ m f. c.in_default.not-Bit m (c.kind-in-Bit.ensures.same ∙ f)))

pub choose_part-returns-in_default-kind : goal.choose_part-returns-in_default-kind
choose_part-returns-in_default-kind t c = absurd (one-word _ _ _ c.requires.types _ (sym c.kind.ensures.same ∙ c.in-Word.is) (λ m f. c.in_default-kind.not-Word m (c.kind-in-Word.ensures.same ∙ f)))

pub choose_part-returns-in_default-kind-2 : goal.choose_part-returns-in_default-kind-2
choose_part-returns-in_default-kind-2 t c = absurd (one-text _ _ _ c.requires.types _ (sym c.kind.ensures.same ∙ c.in-Text.is) (λ m f. c.in_default-kind-2.not-Text m (c.kind-in-Text.ensures.same ∙ f)))

pub choose_part-choose_set-requires-clause-types : goal.choose_part-choose_set-requires-clause-types
choose_part-choose_set-requires-clause-types t c = one-set _ _ _ c.requires.types _ (sym c.kind.ensures.same ∙ c.in-Set.is)

pub choose_part-choose_function-requires : goal.choose_part-choose_function-requires
choose_part-choose_function-requires t c = (omega arith, (c.requires.below, one-function _ _ _ c.requires.types _ (sym c.kind.ensures.same ∙ c.in-Fun.is)))

pub choose_part-choose_sequence-requires : goal.choose_part-choose_sequence-requires
choose_part-choose_sequence-requires t c = (omega arith, (c.requires.below, one-sequence _ _ _ c.requires.types _ _ (sym c.kind.ensures.same ∙ c.in-Seq.is)))

pub choose_at-choose_cell-requires : goal.choose_at-choose_cell-requires
choose_at-choose_cell-requires t c =
    let p = c.part_at-left.ensures.older in
    let q = c.part_at-right.ensures.older in
    let u = c.requires.types in
    let types = part-types-of _ _ _ c.args.place _ _ u (c.part_at-left.ensures.part c.part_at-left.result) (c.part_at-right.ensures.part c.part_at-right.result) in
    (omega arith, (c.requires.below, types))

pub choose_composite-choose_parts-requires : goal.choose_composite-choose_parts-requires
choose_composite-choose_parts-requires t c = (omega arith, (c.requires.below, rw c.part_count-count.ensures (composite-parts _ _ _ c.requires.types)))

pub choose_composite-with_parts-requires : goal.choose_composite-with_parts-requires
choose_composite-with_parts-requires t c = chosen-fits _ _ _ _ _ _ c.requires.types (rw c.part_count-count.ensures at c.in_ok-parts.ensures.chosen) c.in_ok-parts.ensures.grows

pub choose_composite-returns-clause-chosen : goal.choose_composite-returns-clause-chosen
choose_composite-returns-clause-chosen t c =
    chosen-composite _ _ _ _ _ _ c.requires.types (rw c.part_count-count.ensures at c.in_ok-parts.ensures.chosen) c.in_ok-parts.ensures.grows _ _ c.in_ok-id.ensures.grows c.in_ok-id.ensures.made

pub choose_parts-choose_at-requires : goal.choose_parts-choose_at-requires
choose_parts-choose_at-requires t c =
    let i = c.loop-i.invariant in
    let b = c.requires.below in
    let g = i.grows.formula.vars in
    (omega arith, (omega arith, parts-fewer _ _ _ _ _ (c.loop-i.i + 1) c.requires.types (omega arith) i.grows))

pub choose_parts-loop-i-preserved : goal.choose_parts-loop-i-preserved
choose_parts-loop-i-preserved t c =
    let i = c.loop-i.invariant in
    record {
      grows = Grows-trans _ _ _ i.grows c.in_ok-part.ensures.grows;
      chosen = parts-chosen-more _ _ _ _ _ _ _ c.loop-i.i _ _ _ c.requires.types (omega arith) i.chosen i.grows c.in_ok-part.ensures.grows c.in_ok-part.ensures.chosen c.in_ok-push.ensures.items;
    }

pub choose_arrow-choose_cell-requires : goal.choose_arrow-choose_cell-requires
choose_arrow-choose_cell-requires t c =
    let p = c.arrow_at-left.ensures.older in
    let q = c.arrow_at-right.ensures.older in
    let types = result-types _ _ _ c.args.place _ _ c.requires.front (c.arrow_at-left.ensures.arrow c.arrow_at-left.result) (c.arrow_at-right.ensures.arrow c.arrow_at-right.result) in
    (omega arith, (c.requires.below, types))

pub choose_arrow-returns-in_err-there-clause-grows : goal.choose_arrow-returns-in_err-there-clause-grows
choose_arrow-returns-in_err-there-clause-grows t c = Grows-trans _ _ _ c.in_ok-value.ensures.grows (Grows-formula _ _ c.in_err-there.ensures.grows refl)

pub choose_arrow-returns-clause-chosen : goal.choose_arrow-returns-clause-chosen
choose_arrow-returns-clause-chosen t c =
    arrow-chosen _ _ _ _ _ _ c.args.place _ _ _ _ c.requires.front (c.arrow_at-left.ensures.arrow c.arrow_at-left.result) (c.arrow_at-right.ensures.arrow c.arrow_at-right.result)
    c.in_ok-value.ensures.grows (Grows-formula _ _ c.in_ok-there.ensures.grows refl) c.in_ok-value.ensures.chosen c.in_ok-there.ensures.value

pub choose_arrow-returns-clause-grows : goal.choose_arrow-returns-clause-grows
choose_arrow-returns-clause-grows t c = Grows-trans _ _ _ c.in_ok-value.ensures.grows (Grows-formula _ _ c.in_ok-there.ensures.grows refl)

pub choose_arrows-choose_arrow-requires : goal.choose_arrows-choose_arrow-requires
choose_arrows-choose_arrow-requires t c =
    let i = c.loop-i.invariant in
    let b = c.requires.below in
    let g = i.grows.formula.vars in
    (omega arith, (omega arith, front-fewer _ _ _ _ _ (c.loop-i.i + 1) c.requires.front (omega arith) i.grows))

pub choose_arrows-loop-i-preserved : goal.choose_arrows-loop-i-preserved
choose_arrows-loop-i-preserved t c =
    let i = c.loop-i.invariant in
    record {
      grows = Grows-trans _ _ _ i.grows c.in_ok-arrow.ensures.grows;
      chosen = arrows-chosen-more _ _ _ _ _ _ _ c.loop-i.i _ _ _ c.requires.front (omega arith) i.chosen i.grows c.in_ok-arrow.ensures.grows c.in_ok-arrow.ensures.chosen c.in_ok-push.ensures.items;
    }

pub choose_function-choose_arrows-requires : goal.choose_function-choose_arrows-requires
choose_function-choose_arrows-requires t c = (omega arith, (c.requires.below, record { types = c.requires.types; front = c.common_front-count.ensures }))

pub choose_function-end_function-requires-clause-begins : goal.choose_function-end_function-requires-clause-begins
choose_function-end_function-requires-clause-begins t c =
    begins-both _ _ _ _ _ _ _ (record { types = c.requires.types; front = c.common_front-count.ensures }) c.in_ok-front.ensures.grows c.in_ok-front.ensures.chosen

pub choose_function-returns-clause-chosen : goal.choose_function-returns-clause-chosen
choose_function-returns-clause-chosen t c =
    chosen-function _ _ _ _ _ _ _ _ _ (record { types = c.requires.types; front = c.common_front-count.ensures }) c.in_ok-front.ensures.grows c.in_ok-id.ensures.grows c.in_ok-front.ensures.chosen c.in_ok-id.ensures.ends

pub choose_sequence-choose_parts-requires : goal.choose_sequence-choose_parts-requires
choose_sequence-choose_parts-requires t c = let n = c.common_count-count.ensures in (omega arith, (c.requires.below, sequence-parts _ _ _ _ c.requires.types n.left n.right))

pub choose_sequence-end_sequence-requires-clause-begins : goal.choose_sequence-end_sequence-requires-clause-begins
choose_sequence-end_sequence-requires-clause-begins t c =
    let n = c.common_count-count.ensures in
    begins-places c.args.b.now _ _ _ _ _ _ c.requires.types n.left n.right n.all c.in_ok-front.ensures.grows c.in_ok-front.ensures.chosen

pub choose_sequence-returns-clause-chosen : goal.choose_sequence-returns-clause-chosen
choose_sequence-returns-clause-chosen t c =
    let n = c.common_count-count.ensures in
    chosen-sequence c.args.b.now _ _ _ _ _ _ c.requires.types n.left n.right n.all c.in_ok-front.ensures.grows c.in_ok-front.ensures.chosen _ _ c.in_ok-id.ensures.grows c.in_ok-id.ensures.ends
