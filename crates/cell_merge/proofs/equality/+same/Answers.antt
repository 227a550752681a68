use Rattle.std.proofs.Common.{get_or, ◌≡◌, ◌<◌, true, false, not, ◌&&◌, List, length, sym, ◌∙◌, ap, arith}
use Rattle.std.proofs.lemmas.List.{get_or_default}
use Rattle.sat_formula.specs.declared.lit.Lit.{Lit}
use Rattle.sat_formula.specs.Lit.{lit_value, values}
use Rattle.cell_merge.specs.inner.Crosses.{any_both}
use Rattle.sat_formula.proofs.Extension.{Satisfies-older, Grows-refl, Grows-trans}
use Rattle.tla_values.specs.Order.{same_value}
use Rattle.tla_values.specs.declared.value.Value.{Value}
use Rattle.tla_values.proofs.Extensional.{same_itself}
use Rattle.cell_arena.specs.declared.kinds.CellId.{CellId}
use Rattle.cell_arena.specs.Cells.{kind_at}
use Rattle.cell_arena.specs.Decode.{decode}
use Rattle.cell_merge.proofs.Edges.{left-there, right-there, one-bit, one-word, one-text, one-sequence, negated-value, same-bits, same-words}
use Rattle.cell_merge.proofs.Names.{IsOver-later, same-names, words-alike, texts-alike}
use Rattle.cell_merge.proofs.Tested.{named-later}
use Rattle.cell_merge.proofs.Standing.{tell-more, tell-none, tell-all, tell-later, heads-typed, tails-typed, tails-none, tails-some, item-alone, item-pair, item-apart, items-front, items-back, stands-known, hidden-more}
use Rattle.cell_merge.proofs.Compared.{row-none, row-off, row-more, row-all, row-along, compares-none, compares-off, compares-more, compares-all, items-compared}
use Rattle.cell_merge.proofs.Lengths.{common-at, places-none, places-more, places-all, places-typed}
use Rattle.cell_merge.proofs.Shapes.{parts-count, parts-typed, tests-parts-more, tests-parts-all}
use Rattle.cell_merge.proofs.equality.+same.Goals as goal
use Rattle.cell_merge.proofs.equality.+same.Goals.{same_in-in-Bit+in_default, same_in-in-Word+in_default-kind, same_in-in-Text+in_default-kind-2}

abbrev none-lit : Lit
none-lit = record { var = 0; neg = false }

abbrev none-edge : Lit × CellId
none-edge = (none-lit, record { index = 0 })

same-alike : {v : Value} {w : Value} → v ≡ w → same_value v w ≡ true
same-alike {v = v} e = ap (same_value v) (sym e) ∙ same_itself v

pub same_in-alike-requires-clause-x_there : goal.same_in-alike-requires-clause-x_there
same_in-alike-requires-clause-x_there t c = left-there _ _ _ c.requires.types

pub same_in-alike-requires-clause-y_there : goal.same_in-alike-requires-clause-y_there
same_in-alike-requires-clause-y_there t c = right-there _ _ _ c.requires.types

pub same_in-returns-then-alike-clause-value : goal.same_in-returns-then-alike-clause-value
same_in-returns-then-alike-clause-value t c = record {
  below = c.top-top.ensures.below;
  value = λ a s. c.top-top.ensures.forced a s ∙ sym (same-alike (c.alike.ensures c.if-alike.true a));
}

pub same_in-kind-requires : goal.same_in-kind-requires
same_in-kind-requires t c = left-there _ _ _ c.requires.types

pub same_in-kind-requires-in-Bit : goal.same_in-kind-requires-in-Bit
same_in-kind-requires-in-Bit t c = right-there _ _ _ c.requires.types

pub same_in-kind-requires-in-Word : goal.same_in-kind-requires-in-Word
same_in-kind-requires-in-Word t c = right-there _ _ _ c.requires.types

pub same_in-kind-requires-in-Text : goal.same_in-kind-requires-in-Text
same_in-kind-requires-in-Text t c = right-there _ _ _ c.requires.types

pub same_in-equal-requires-clause-words : goal.same_in-equal-requires-clause-words
same_in-equal-requires-clause-words t c = words-alike _ _ _ _ _ _ _ _ c.requires.over c.kind.ensures.held c.kind-in-Word.ensures.held c.in-Word.is c.in-Word-kind.is

pub same_in-equal-requires-in-Text-kind-clause-words : goal.same_in-equal-requires-in-Text-kind-clause-words
same_in-equal-requires-in-Text-kind-clause-words t c = texts-alike _ _ _ _ _ _ _ _ c.requires.over c.kind.ensures.held c.kind-in-Text.ensures.held c.in-Text.is c.in-Text-kind.is

pub same_in-returns-in-Bit-kind-clause-value : goal.same_in-returns-in-Bit-kind-clause-value
same_in-returns-in-Bit-kind-clause-value t c = record {
  below = c.in_ok-bits-in-Bit.ensures.value.below;
  value = λ a s. c.in_ok-bits-in-Bit.ensures.value.value a s ∙ same-bits c.args.arena.now a c.args.x c.args.y _ _ _ _ (c.kind.ensures.decodes a) (c.kind-in-Bit.ensures.decodes a) c.in-Bit.is c.in-Bit-kind.is;
}

pub same_in-returns-in-Word-kind-clause-value : goal.same_in-returns-in-Word-kind-clause-value
same_in-returns-in-Word-kind-clause-value t c = record {
  below = c.in_ok-words-in-Word.ensures.value.below;
  value = λ a s. c.in_ok-words-in-Word.ensures.value.value a s
      ∙ same-words c.args.arena.now a c.args.x c.args.y _ _ _ _ (c.kind.ensures.decodes a) (c.kind-in-Word.ensures.decodes a) c.in-Word.is c.in-Word-kind.is;
}

pub same_in-returns-in-Text-kind-clause-value : goal.same_in-returns-in-Text-kind-clause-value
same_in-returns-in-Text-kind-clause-value t c = record {
  below = c.in_ok-codes-in-Text.ensures.value.below;
  value = λ a s.
      let s0 = Satisfies-older _ _ a c.in_ok-codes-in-Text.ensures.grows s in
      c.in_ok-codes-in-Text.ensures.value.value a s
      ∙ same-names c.args.arena.now c.args.formula.now a c.args.x c.args.y _ _ c.requires.over s0 (left-there _ _ _ c.requires.types) (right-there _ _ _ c.requires.types)
      (sym c.kind.ensures.same ∙ c.in-Text.is) (sym c.kind-in-Text.ensures.same ∙ c.in-Text-kind.is);
}

pub same_in-returns-clause-value : goal.same_in-returns-clause-value
same_in-returns-clause-value t c =
    let never : ⊥ = elim c.match-kind.branch [
      | same_in-in-Bit+in_default w ↦ one-bit _ _ _ c.requires.types _ (sym c.kind.ensures.same ∙ w.in-Bit.is) (λ m f. w.in_default.not-Bit m (w.kind-in-Bit.ensures.same ∙ f))
      | same_in-in-Word+in_default-kind w ↦ one-word _ _ _ c.requires.types _ (sym c.kind.ensures.same ∙ w.in-Word.is) (λ m f. w.in_default-kind.not-Word m (w.kind-in-Word.ensures.same ∙ f))
      | same_in-in-Text+in_default-kind-2 w ↦ one-text _ _ _ c.requires.types _ (sym c.kind.ensures.same ∙ w.in-Text.is) (λ m f. w.in_default-kind-2.not-Text m (w.kind-in-Text.ensures.same ∙ f))
    ] in
    absurd never

pub same_in-same_sequences-requires : goal.same_in-same_sequences-requires
same_in-same_sequences-requires t c = (omega arith, (c.requires.over, one-sequence _ _ _ c.requires.types _ _ (sym c.kind.ensures.same ∙ c.in-Seq.is)))

pub standing-item_count-total-requires : goal.standing-item_count-total-requires
standing-item_count-total-requires t c = left-there _ _ _ c.requires.types.types

pub standing-stands-requires : goal.standing-stands-requires
standing-stands-requires t c =
    let n = c.item_count-total.ensures in
    (omega arith, (IsOver-later _ _ _ c.requires.over c.loop-i.invariant.grows, record { types = c.requires.types; left = omega arith; right = omega arith }))

pub standing-loop-i-init : goal.standing-loop-i-init
standing-loop-i-init t c = record { grows = Grows-refl _; tells = tell-none _ _ _ _ c.new-all.ensures.items }

pub standing-loop-i-preserved : goal.standing-loop-i-preserved
standing-loop-i-preserved t c =
    let i = c.loop-i.invariant in
    let n = c.item_count-total.ensures in
    record {
      grows = Grows-trans _ _ _ i.grows c.in_ok-one.ensures.grows;
      tells = tell-more _ _ _ _ c.loop-i.i _ _ _ i.tells c.in_ok-one.ensures.grows (omega arith) c.in_ok-one.ensures.value c.in_ok-push.ensures.items;
    }

pub standing-returns-clause-tells : goal.standing-returns-clause-tells
standing-returns-clause-tells t c = tell-all _ _ _ c.loop-i.i _ c.loop-i.invariant.tells (let n = c.item_count-total.ensures in omega arith)

pub stands-same_in-requires : goal.stands-same_in-requires
stands-same_in-requires t c =
    let p = c.head_at.ensures.older in
    let q = c.head_at-in-loop-i.ensures.older in
    let n = c.requires.item.left in (
      omega arith,
      (
        IsOver-later _ _ _ c.requires.over c.loop-i.invariant.grows,
        heads-typed _ _ _ _ c.loop-i.i (record { types = c.requires.item.types; left = c.requires.item.left; right = omega arith }) c.head_at.result c.head_at-in-loop-i.result c.head_at.ensures.head c.head_at-in-loop-i.ensures.head,
      ),
    )

pub stands-loop-i-preserved : goal.stands-loop-i-preserved
stands-loop-i-preserved t c =
    let i = c.loop-i.invariant in
    let k = c.args.arena.now in
    let n = c.requires.item.left in
    record {
      grows = Grows-trans _ _ _ i.grows (Grows-trans _ _ _ c.in_ok-one.ensures.grows (Grows-trans _ _ _ c.in_ok-here.ensures.grows c.in_ok-hidden.ensures.grows));
      value = record {
        below = c.in_ok-hidden.ensures.value.below;
        value = λ a s3.
            let s2 = Satisfies-older _ _ a c.in_ok-hidden.ensures.grows s3 in
            let s1 = Satisfies-older _ _ a c.in_ok-here.ensures.grows s2 in
            let s0 = Satisfies-older _ _ a c.in_ok-one.ensures.grows s1 in
            rw (c.in_ok-hidden.ensures.value.value a s3, c.in_ok-here.ensures.value.value a s2, c.in_ok-one.ensures.value.value a s1, i.value.value a s0)
            (sym (hidden-more a (decode k a) (decode k a c.head_at.result.1) (kind_at k.kinds c.args.x.of) c.loop-i.i c.head_at-in-loop-i.result.0 c.head_at-in-loop-i.result.1 (omega arith) c.head_at-in-loop-i.ensures.head));
      };
    }

pub stands-returns-clause-value : goal.stands-returns-clause-value
stands-returns-clause-value t c =
    let k = c.args.arena.now in
    record {
      below = c.in_ok-first.ensures.value.below;
      value = λ a s1.
          let s0 = Satisfies-older _ _ a c.in_ok-first.ensures.grows s1 in
          c.in_ok-first.ensures.value.value a s1 ∙ ap (λ t. lit_value c.head_at.result.0 a && t) (negated-value _ _ a c.negated.ensures ∙ ap not (c.loop-i.invariant.value.value a s0))
          ∙ stands-known a (decode k a) (kind_at k.kinds c.args.x.of) _ c.args.x.place c.loop-i.i c.head_at.result.0 c.head_at.result.1 (sym c.kind.ensures.same ∙ c.in-Fun.is) c.head_at.ensures.head (omega arith);
    }

pub same_item-returns-in_default-clause-value : goal.same_item-returns-in_default-clause-value
same_item-returns-in_default-clause-value t c =
    let k = c.args.arena.now in
    record {
      below = c.in_ok-heads.ensures.value.below;
      value = λ a s.
          c.in_ok-heads.ensures.value.value a s
          ∙ item-alone (decode k a) (kind_at k.kinds c.args.x.of) (kind_at k.kinds c.args.y.of) c.args.x.place c.args.y.place c.head_at-left.result c.head_at-right.result c.head_at-left.ensures.head c.head_at-right.ensures.head
          (sym c.in_default.ensures.tail) (tails-none _ _ _ _ _ c.requires.types (sym c.in_default.ensures.tail));
    }

pub same_item-returns-in_default-tail_at-clause-value : goal.same_item-returns-in_default-tail_at-clause-value
same_item-returns-in_default-tail_at-clause-value t c = absurd (tails-some _ _ _ _ _ c.requires.types c.in-Some.result (sym c.in-Some.ensures.tail) (sym c.in_default-tail_at.ensures.tail))

pub same_item-returns-in-Some-false-clause-value : goal.same_item-returns-in-Some-false-clause-value
same_item-returns-in-Some-false-clause-value t c =
    let k = c.args.arena.now in
    record {
      below = c.in_ok-heads.ensures.value.below;
      value = λ a s.
          let off = c.in-Some-false.ensures.value a s ∙ c.in-Some-false.field-0-test in
          off ∙ item-apart (decode k a) (kind_at k.kinds c.args.x.of) (kind_at k.kinds c.args.y.of) c.args.x.place c.args.y.place c.head_at-left.result c.head_at-right.result c.in-Some.result c.in-Some-tail_at.other
          c.head_at-left.ensures.head c.head_at-right.ensures.head (sym c.in-Some.ensures.tail) (sym c.in-Some-tail_at.ensures.tail) (sym (c.in_ok-heads.ensures.value.value a s) ∙ off);
    }

pub same_item-same_in-requires-2 : goal.same_item-same_in-requires-2
same_item-same_in-requires-2 t c =
    let p = c.in-Some.ensures.older in
    let q = c.in-Some-tail_at.ensures.older in
    (omega arith, (IsOver-later _ _ _ c.requires.over c.in_ok-heads.ensures.grows, tails-typed _ _ _ _ _ c.requires.types _ _ (sym c.in-Some.ensures.tail) (sym c.in-Some-tail_at.ensures.tail)))

pub same_item-returns-clause-value : goal.same_item-returns-clause-value
same_item-returns-clause-value t c =
    let k = c.args.arena.now in
    record {
      below = c.in_ok-both.ensures.value.below;
      value = λ a s2.
          let s1 = Satisfies-older _ _ a c.in_ok-both.ensures.grows s2 in
          let s0 = Satisfies-older _ _ a c.in_ok-tails.ensures.grows s1 in
          rw (c.in_ok-both.ensures.value.value a s2, c.in_ok-heads.ensures.value.value a s0, c.in_ok-tails.ensures.value.value a s1)
          (item-pair (decode k a) (kind_at k.kinds c.args.x.of) (kind_at k.kinds c.args.y.of) c.args.x.place c.args.y.place c.head_at-left.result c.head_at-right.result c.in-Some.result c.in-Some-tail_at.other
          c.head_at-left.ensures.head c.head_at-right.ensures.head (sym c.in-Some.ensures.tail) (sym c.in-Some-tail_at.ensures.tail));
    }

pub same_item-head_at-left-requires-clause-there : goal.same_item-head_at-left-requires-clause-there
same_item-head_at-left-requires-clause-there t c = left-there _ _ _ c.requires.types.types.types

pub same_item-head_at-right-requires-clause-there : goal.same_item-head_at-right-requires-clause-there
same_item-head_at-right-requires-clause-there t c = right-there _ _ _ c.requires.types.types.types

pub same_item-same_in-requires : goal.same_item-same_in-requires
same_item-same_in-requires t c =
    let p = c.head_at-left.ensures.older in
    let q = c.head_at-right.ensures.older in
    (omega arith, (c.requires.over, heads-typed _ _ _ _ _ c.requires.types c.head_at-left.result c.head_at-right.result c.head_at-left.ensures.head c.head_at-right.ensures.head))

pub row-same_item-requires : goal.row-same_item-requires
row-same_item-requires t c =
    let n = c.requires.theirs.count in
    (omega arith, (IsOver-later _ _ _ c.requires.over c.loop-j.invariant.grows, record { types = c.requires.types.types; left = c.requires.types.within; right = omega arith }))

pub row-loop-j-init : goal.row-loop-j-init
row-loop-j-init t c = record { grows = Grows-refl _; row = row-none _ _ _ _ _ _ c.new-row.ensures.items }

pub row-loop-j-preserved-in-Some-false : goal.row-loop-j-preserved-in-Some-false
row-loop-j-preserved-in-Some-false t c =
    let i = c.loop-j.invariant in
    let lt : c.loop-j.j < length c.args.theirs.now = omega arith in
    record {
      grows = i.grows;
      row = row-off _ _ _ _ _ c.args.theirs.now c.loop-j.j _ _ _ _ lt (let n = c.requires.theirs.count in omega arith) i.row (Grows-refl _) (get_or_default _ _ _ _ lt)
          (let v = ap (λ (l : Lit). l.var) c.negated-none.ensures in let b = c.top.ensures.below in let g = i.grows.vars in omega arith) c.in_ok-push.ensures.items
          (λ a s. c.in-Some-false.ensures.value a s ∙ c.in-Some-false.field-0-test);
    }

pub row-loop-j-preserved : goal.row-loop-j-preserved
row-loop-j-preserved t c =
    let i = c.loop-j.invariant in
    let lt : c.loop-j.j < length c.args.theirs.now = omega arith in
    record {
      grows = Grows-trans _ _ _ i.grows c.in_ok-one.ensures.grows;
      row = row-more _ _ _ _ _ c.args.theirs.now c.loop-j.j (get_or c.args.theirs.now c.loop-j.j none-lit) _ _ _ lt (let n = c.requires.theirs.count in omega arith) i.row c.in_ok-one.ensures.grows (get_or_default _ _ _ _ lt)
          c.in_ok-one.ensures.value.below c.in_ok-push-2.ensures.items (λ a s on. c.in_ok-one.ensures.value.value a s);
    }

pub row-returns-clause-row : goal.row-returns-clause-row
row-returns-clause-row t c = row-all _ _ _ _ _ _ c.loop-j.j c.loop-j.invariant.row (omega arith)

pub compare-loop-i-init : goal.compare-loop-i-init
compare-loop-i-init t c = record {
  grows = Grows-refl _;
  compares = compares-none _ _ _ _ c.as_slice-ours.result.now c.as_slice-theirs.result.now _ _ c.negated-none.result
      (let v = ap (λ (l : Lit). l.var) c.negated-none.ensures in let b = c.top.ensures.below in omega arith)
      (λ a s. negated-value _ _ a c.negated-none.ensures ∙ ap not (c.top.ensures.forced a s)) (ap length c.as_slice-theirs.ensures.value ∙ c.requires.items.theirs.count) c.new-found.ensures.items c.in_ok-covered.ensures;
}

pub compare-loop-i-preserved-in-Some-false : goal.compare-loop-i-preserved-in-Some-false
compare-loop-i-preserved-in-Some-false t c =
    let i = c.loop-i.invariant in
    let lt : c.loop-i.i < length c.as_slice-ours.result.now = omega arith in
    record {
      grows = i.grows;
      compares = compares-off _ _ _ _ _ c.as_slice-ours.result.now c.as_slice-theirs.result.now c.loop-i.i _ _ _ _ _ lt
          (let n = ap length c.as_slice-ours.ensures.value ∙ c.requires.items.ours.count in omega arith) i.compares (Grows-refl _) (get_or_default _ _ _ _ lt)
          (let v = ap (λ (l : Lit). l.var) c.negated-none.ensures in let b = c.top.ensures.below in let g = i.grows.vars in omega arith) c.in_ok-push.ensures.items
          (λ a s. c.in-Some-false.ensures.value a s ∙ c.in-Some-false.field-0-test);
    }

pub compare-row-requires : goal.compare-row-requires
compare-row-requires t c =
    let i = c.loop-i.invariant in
    let n = ap length c.as_slice-ours.ensures.value ∙ c.requires.items.ours.count in (
      omega arith,
      (
        IsOver-later _ _ _ c.requires.over i.grows,
        (
          record { types = c.requires.types; within = omega arith },
          record { named = rw c.as_slice-theirs.ensures.value (named-later _ _ _ c.requires.items.theirs.named i.grows.vars); count = ap length c.as_slice-theirs.ensures.value ∙ c.requires.items.theirs.count },
        ),
      ),
    )

pub compare-meets-requires : goal.compare-meets-requires
compare-meets-requires t c =
    let i = c.loop-i.invariant in
    rw c.as_slice.ensures.value (row-along _ _ _ _ c.as_slice-theirs.result.now _ c.in_ok-row.ensures.row
    (rw c.as_slice-theirs.ensures.value (named-later _ _ _ c.requires.items.theirs.named (let p = i.grows.vars in let q = c.in_ok-row.ensures.grows.vars in omega arith))))

pub compare-cover-requires-clause-lists : goal.compare-cover-requires-clause-lists
compare-cover-requires-clause-lists t c =
    let i = c.loop-i.invariant in
    rw (c.as_slice-in-loop-i.ensures.value, c.as_slice-in-loop-i-2.ensures.value) (record {
      left = named-later _ _ _ c.in_ok-row.ensures.row.named c.in_ok-one.ensures.grows.vars;
      right = named-later _ _ _ i.compares.covered_named (let p = c.in_ok-row.ensures.grows.vars in let q = c.in_ok-one.ensures.grows.vars in omega arith);
      same = c.in_ok-row.ensures.row.count ∙ sym i.compares.covered_count;
    })

pub compare-loop-i-preserved : goal.compare-loop-i-preserved
compare-loop-i-preserved t c =
    let i = c.loop-i.invariant in
    let lt : c.loop-i.i < length c.as_slice-ours.result.now = omega arith in
    let later = Grows-trans _ _ _ c.in_ok-one.ensures.grows c.in_ok-covered-2.ensures.grows in
    record {
      grows = Grows-trans _ _ _ i.grows (Grows-trans _ _ _ c.in_ok-row.ensures.grows later);
      compares = compares-more _ _ _ _ _ c.as_slice-ours.result.now c.as_slice-theirs.result.now c.loop-i.i _ _ _ _ _ lt
          (let n = ap length c.as_slice-ours.ensures.value ∙ c.requires.items.ours.count in omega arith) i.compares (Grows-trans _ _ _ c.in_ok-row.ensures.grows later) (get_or_default _ _ _ _ lt)
          (let v = c.in_ok-one.ensures.value.below in let g = c.in_ok-covered-2.ensures.grows.vars in omega arith) c.in_ok-push-2.ensures.items
          _ _ _ c.in_ok-row.ensures.grows later c.in_ok-row.ensures.row (ap length c.as_slice-theirs.ensures.value ∙ c.requires.items.theirs.count)
          (λ a s. c.in_ok-one.ensures.value.value a (Satisfies-older _ _ a c.in_ok-covered-2.ensures.grows s) ∙ ap (λ (ls : List Lit). any_both (values c.as_slice-theirs.result.now a) (values ls a)) c.as_slice.ensures.value)
          (rw (c.as_slice-in-loop-i.ensures.value, c.as_slice-in-loop-i-2.ensures.value) at c.in_ok-covered-2.ensures.covers);
    }

pub compare-returns-clause-compares : goal.compare-returns-clause-compares
compare-returns-clause-compares t c =
    let n = ap length c.as_slice-ours.ensures.value ∙ c.requires.items.ours.count in
    compares-all _ _ _ _ c.as_slice-ours.result.now c.as_slice-theirs.result.now _ _ _ _ c.loop-i.i c.loop-i.invariant.compares c.as_slice-ours.ensures.value c.as_slice-theirs.ensures.value (omega arith)

pub same_items-standing-requires : goal.same_items-standing-requires
same_items-standing-requires t c = (omega arith, (c.requires.over, items-front _ _ _ c.requires.types))

pub same_items-standing-requires-2 : goal.same_items-standing-requires-2
same_items-standing-requires-2 t c = (omega arith, (IsOver-later _ _ _ c.requires.over c.in_ok-left.ensures.grows, items-back _ _ _ c.requires.types))

pub same_items-compare-requires : goal.same_items-compare-requires
same_items-compare-requires t c = (
  omega arith,
  (
    IsOver-later _ _ _ c.requires.over (Grows-trans _ _ _ c.in_ok-left.ensures.grows c.in_ok-right.ensures.grows),
    (
      c.requires.types,
      record { ours = tell-later _ _ _ _ _ _ c.in_ok-left.ensures.tells c.in_ok-right.ensures.grows; theirs = c.in_ok-right.ensures.tells },
    ),
  ),
)

pub same_items-mutual-requires-clause-left : goal.same_items-mutual-requires-clause-left
same_items-mutual-requires-clause-left t c = record {
  left = named-later _ _ _ c.in_ok-left.ensures.tells.named (let p = c.in_ok-right.ensures.grows.vars in let q = c.in_ok-tests.ensures.grows.vars in omega arith);
  right = c.in_ok-tests.ensures.compares.found_named;
  same = c.in_ok-left.ensures.tells.count ∙ sym c.in_ok-tests.ensures.compares.found_count;
}

pub same_items-mutual-requires-clause-right : goal.same_items-mutual-requires-clause-right
same_items-mutual-requires-clause-right t c = record {
  left = named-later _ _ _ c.in_ok-right.ensures.tells.named c.in_ok-tests.ensures.grows.vars;
  right = c.in_ok-tests.ensures.compares.covered_named;
  same = sym c.in_ok-tests.ensures.compares.covered_count;
}

pub same_items-returns-clause-value : goal.same_items-returns-clause-value
same_items-returns-clause-value t c = record {
  below = c.in_ok-all.ensures.value.below;
  value = λ a s.
      c.in_ok-all.ensures.value.value a s
      ∙ items-compared c.args.arena.now _ a c.args.x c.args.y _ _ _ _ c.requires.over.built c.requires.types (Satisfies-older _ _ a c.in_ok-all.ensures.grows s)
      (tell-later _ _ _ _ _ _ c.in_ok-left.ensures.tells (Grows-trans _ _ _ c.in_ok-right.ensures.grows c.in_ok-tests.ensures.grows))
      (tell-later _ _ _ _ _ _ c.in_ok-right.ensures.tells c.in_ok-tests.ensures.grows) c.in_ok-tests.ensures.compares;
}

pub same_sequences-same_in-requires : goal.same_sequences-same_in-requires
same_sequences-same_in-requires t c =
    let p = c.part_at.ensures.older in
    let q = c.part_at-in-loop-i.ensures.older in
    let p2 = c.common_count-common.ensures.left in
    let q2 = c.common_count-common.ensures.right in (
      omega arith,
      (
        IsOver-later _ _ _ c.requires.over (Grows-trans _ _ _ c.loop-i.invariant.grows c.in_ok-here.ensures.grows),
        places-typed _ _ _ c.requires.types c.loop-i.i c.part_at.result c.part_at-in-loop-i.result (omega arith) (omega arith) (c.part_at.ensures.part c.part_at.result) (c.part_at-in-loop-i.ensures.part c.part_at-in-loop-i.result),
      ),
    )

pub same_sequences-loop-i-init : goal.same_sequences-loop-i-init
same_sequences-loop-i-init t c = record {
  grows = c.in_ok-lengths.ensures.grows;
  tests = places-none _ _ _ _ _ _ _ c.in_ok-lengths.ensures.value c.new-tests.ensures.items c.in_ok-push.ensures.items;
}

pub same_sequences-loop-i-preserved : goal.same_sequences-loop-i-preserved
same_sequences-loop-i-preserved t c =
    let i = c.loop-i.invariant in
    let p = c.common_count-common.ensures.left in
    let q = c.common_count-common.ensures.right in
    record {
      grows = Grows-trans _ _ _ i.grows (Grows-trans _ _ _ c.in_ok-here.ensures.grows (Grows-trans _ _ _ c.in_ok-one.ensures.grows c.in_ok-holds.ensures.grows));
      tests = places-more _ _ _ _ _ _ _ c.loop-i.i _ _ _ _ c.part_at.result c.part_at-in-loop-i.result _ _ i.tests c.in_ok-here.ensures.grows c.in_ok-one.ensures.grows c.in_ok-holds.ensures.grows (omega arith) (omega arith)
          (c.part_at.ensures.part c.part_at.result) (c.part_at-in-loop-i.ensures.part c.part_at-in-loop-i.result) c.in_ok-here.ensures.value (λ a. negated-value _ _ a c.negated.ensures) c.in_ok-one.ensures.value c.in_ok-holds.ensures.value c.in_ok-push-2.ensures.items;
    }

pub same_sequences-returns-clause-value : goal.same_sequences-returns-clause-value
same_sequences-returns-clause-value t c = record {
  below = c.in_ok-all.ensures.value.below;
  value = λ a s.
      c.in_ok-all.ensures.value.value a s
      ∙ rw c.as_slice.ensures.value (places-all c.args.arena.now _ a c.args.x c.args.y c.loop-i.i _ (IsOver-later _ _ _ c.requires.over c.loop-i.invariant.grows) c.requires.types (Satisfies-older _ _ a c.in_ok-all.ensures.grows s)
      (common-at _ _ _ _ _ c.common_count-common.ensures (omega arith)) c.loop-i.invariant.tests);
}

pub part_tests-part_at-right-requires-clause-there : goal.part_tests-part_at-right-requires-clause-there
part_tests-part_at-right-requires-clause-there t c = right-there _ _ _ c.requires.types.types

pub part_tests-part_at-right-requires-clause-within : goal.part_tests-part_at-right-requires-clause-within
part_tests-part_at-right-requires-clause-within t c = let m = parts-count _ _ _ c.requires.types in let n = c.part_count-count.ensures in omega arith

pub part_tests-same_in-requires : goal.part_tests-same_in-requires
part_tests-same_in-requires t c =
    let p = c.part_at-left.ensures.older in
    let q = c.part_at-right.ensures.older in
    let n = c.part_count-count.ensures in
    let types = parts-typed _ _ _ c.requires.types c.loop-i.i _ _ (omega arith) (c.part_at-left.ensures.part c.part_at-left.result) (c.part_at-right.ensures.part c.part_at-right.result) in
    (omega arith, (IsOver-later _ _ _ c.requires.over c.loop-i.invariant.grows, types))

pub part_tests-loop-i-preserved : goal.part_tests-loop-i-preserved
part_tests-loop-i-preserved t c =
    let i = c.loop-i.invariant in
    let m = parts-count _ _ _ c.requires.types in
    let n = c.part_count-count.ensures in
    record {
      grows = Grows-trans _ _ _ i.grows c.in_ok-one.ensures.grows;
      tests = tests-parts-more _ _ _ _ _ c.loop-i.i _ _ _ _ _ (omega arith) (omega arith) i.tests c.in_ok-one.ensures.grows (c.part_at-left.ensures.part c.part_at-left.result)
          (c.part_at-right.ensures.part c.part_at-right.result) c.in_ok-one.ensures.value c.in_ok-push.ensures.items;
    }

pub same_parts-returns-clause-value : goal.same_parts-returns-clause-value
same_parts-returns-clause-value t c = record {
  below = c.in_ok-all.ensures.value.below;
  value = λ a s.
      c.in_ok-all.ensures.value.value a s
      ∙ rw c.as_slice.ensures.value (tests-parts-all c.args.arena.now _ a c.args.x c.args.y _ c.requires.over.built c.requires.types (Satisfies-older _ _ a c.in_ok-all.ensures.grows s) c.in_ok-tests.ensures.tests);
}
