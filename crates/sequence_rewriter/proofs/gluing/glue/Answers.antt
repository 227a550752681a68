use Rattle.std.proofs.Common.{refl, arith, length, ◌<◌}
use Rattle.std.proofs.lemmas.List.Elements.{All-weaker}
use Rattle.cell_arena.proofs.Growing.{Grows-trans, Grows-formula}
use Rattle.cell_merge.specs.Sorts.{OfSort}
use Rattle.cell_merge.proofs.SortLaws.{OfSort-later}
use Rattle.cell_merge.proofs.Ends.{place-sorts}
use Rattle.word_blaster.proofs.Words.{WordBelow-later}
use Rattle.sequence_rewriter.specs.inner.Lengths.{places_of}
use Rattle.sequence_rewriter.proofs.Fronts.{no-places, glued, glued-none, places-enough}
use Rattle.sequence_rewriter.proofs.gluing.glue.Goals as goal

pub returns-then-part_count-eq0-clause-made : goal.returns-then-part_count-eq0-clause-made
returns-then-part_count-eq0-clause-made c =
    let n = c.part_count.ensures in
    let z = c.if-part_count-eq0.true in
    glued-none c.args.b.now c.args.s c.args.t _ c.requires _ c.in_ok-front.ensures c.in_ok-back.ensures (no-places (places_of c.args.b.now.arena c.args.t) (omega arith))

pub shift_right-requires-clause-types : goal.shift_right-requires-clause-types
shift_right-requires-clause-types c =
    let t = c.requires in
    record { sort = t.sort; are = rw c.in_ok-theirs.ensures (place-sorts _ t.sort c.args.t t.right) }

pub shift_right-requires-clause-some : goal.shift_right-requires-clause-some
shift_right-requires-clause-some c =
    let n = c.part_count.ensures in
    rw c.in_ok-theirs.ensures (grind (arith, c.if-part_count-eq0.false))

pub choose_front-requires-clause-below : goal.choose_front-requires-clause-below
choose_front-requires-clause-below c = rw c.as_slice-2.ensures.value (WordBelow-later _ _ c.in_ok-front.front.items c.in_ok-front.ensures.below c.in_ok-moved.ensures.grows.formula.vars)

pub choose_front-requires-clause-types : goal.choose_front-requires-clause-types
choose_front-requires-clause-types c =
    let t = c.requires in
    let ks = c.args.b.now.arena.kinds in
    rw (c.as_slice-3.ensures.value, c.as_slice-4.ensures.value) (record {
      sort = t.sort;
      left = rw c.in_ok-mine.ensures (All-weaker (OfSort ks t.sort) (OfSort c.shift_right.new.b.arena.kinds t.sort) (λ p h. OfSort-later _ _ t.sort p h c.in_ok-moved.ensures.grows) _ (place-sorts ks t.sort c.args.s t.left));
      right = c.in_ok-moved.ensures.shifts.sorts t.sort (rw c.in_ok-theirs.ensures (place-sorts ks t.sort c.args.t t.right));
    })

pub add_counts-requires-clause-x_below : goal.add_counts-requires-clause-x_below
add_counts-requires-clause-x_below c =
    let g = c.in_ok-moved.ensures.grows.formula.vars in
    let h = c.in_ok-places.ensures.grows.formula.vars in
    rw c.as_slice-5.ensures.value (WordBelow-later _ _ c.in_ok-front.front.items c.in_ok-front.ensures.below (omega arith))

pub add_counts-requires-clause-y_below : goal.add_counts-requires-clause-y_below
add_counts-requires-clause-y_below c =
    let g = c.in_ok-moved.ensures.grows.formula.vars in
    let h = c.in_ok-places.ensures.grows.formula.vars in
    rw c.as_slice-6.ensures.value (WordBelow-later _ _ c.in_ok-back.back.items c.in_ok-back.ensures.below (omega arith))

pub make_sequence-requires-clause-within : goal.make_sequence-requires-clause-within
make_sequence-requires-clause-within c =
    let n = c.part_count.ensures in
    let some : 0 < length (places_of c.args.b.now.arena c.args.t) = grind (arith, c.if-part_count-eq0.false) in
    rw c.as_slice-7.ensures.value (places-enough c.args.b.now _ _ _ c.args.s c.args.t _ _ _ _ _ _ _ c.requires c.in_ok-front.ensures c.in_ok-back.ensures c.in_ok-mine.ensures c.in_ok-theirs.ensures some c.in_ok-moved.ensures.grows (rw c.as_slice.ensures.value at c.in_ok-moved.ensures.shifts)
    c.in_ok-places.ensures.grows (rw (c.as_slice-2.ensures.value, c.as_slice-3.ensures.value, c.as_slice-4.ensures.value) at c.in_ok-places.ensures.front) c.in_ok-bits.ensures.grows
    (rw (c.as_slice-5.ensures.value, c.as_slice-6.ensures.value) at c.in_ok-bits.ensures.value))

pub returns-in_err-bits-clause-grows : goal.returns-in_err-bits-clause-grows
returns-in_err-bits-clause-grows c = Grows-trans _ _ _ (Grows-trans _ _ _ c.in_ok-moved.ensures.grows c.in_ok-places.ensures.grows) (Grows-formula _ _ c.in_err-bits.ensures.grows refl)

pub returns-in_err-id-clause-grows : goal.returns-in_err-id-clause-grows
returns-in_err-id-clause-grows c =
    Grows-trans _ _ _ (Grows-trans _ _ _ (Grows-trans _ _ _ c.in_ok-moved.ensures.grows c.in_ok-places.ensures.grows) (Grows-formula _ _ c.in_ok-bits.ensures.grows refl)) c.in_err-id.ensures.grows

pub returns-clause-grows : goal.returns-clause-grows
returns-clause-grows c =
    Grows-trans _ _ _ (Grows-trans _ _ _ (Grows-trans _ _ _ c.in_ok-moved.ensures.grows c.in_ok-places.ensures.grows) (Grows-formula _ _ c.in_ok-bits.ensures.grows refl)) c.in_ok-id.ensures.grows

pub returns-clause-made : goal.returns-clause-made
returns-clause-made c =
    let n = c.part_count.ensures in
    let some : 0 < length (places_of c.args.b.now.arena c.args.t) = grind (arith, c.if-part_count-eq0.false) in
    glued c.args.b.now _ _ _ c.args.s c.args.t _ _ _ _ _ _ _ c.requires c.in_ok-front.ensures c.in_ok-back.ensures c.in_ok-mine.ensures c.in_ok-theirs.ensures some c.in_ok-moved.ensures.grows (rw c.as_slice.ensures.value at c.in_ok-moved.ensures.shifts)
    c.in_ok-places.ensures.grows (rw (c.as_slice-2.ensures.value, c.as_slice-3.ensures.value, c.as_slice-4.ensures.value) at c.in_ok-places.ensures.front) c.in_ok-bits.ensures.grows
    (rw (c.as_slice-5.ensures.value, c.as_slice-6.ensures.value) at c.in_ok-bits.ensures.value)
    _ _ _ refl refl c.in_ok-id.ensures.grows (rw c.as_slice-7.ensures.value at c.in_ok-id.ensures.made)
