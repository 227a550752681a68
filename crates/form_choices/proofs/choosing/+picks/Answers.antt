use Rattle.std.proofs.Common.{arith, sym, ◌∙◌}
use Rattle.std.proofs.lemmas.Grind.{common_steps}
use Rattle.cell_arena.proofs.Growing.{Grows-refl, Grows-trans}
use Rattle.function_rewriter.proofs.FunctionPicks.{none-of, set-later}
use Rattle.form_cells.specs.declared.form.Form.TheFolds.{the_lemmas}
use Rattle.form_choices.proofs.Listings.{endless-any, form-later, functions-part, part-asked, records-part, subsets-part, tuples-part}
use Rattle.form_choices.proofs.Pickings.{if-some, none-at, none-endless, none-later, none-plain, none-records, none-tuples, picked-count, picked-parts, picks-again, picks-all, picks-first, picks-functions-form, picks-next, picks-none, picks-plain, picks-record, picks-records-form, picks-rule-none, picks-rule-plain, picks-subsets-form, picks-tuple, picks-tuples-form, plain-cell, rule-sets}
use Rattle.form_choices.proofs.Rules.{functions-later, have-arrows, picks-made, rule-later}
use Rattle.form_choices.proofs.choosing.+picks.Goals as goal

-- ---- pick_form

pub pick_form-pick-requires : goal.pick_form-pick-requires
pick_form-pick-requires t c = plain-cell c.args.b.now c.args.form.now c.in-Plain.s c.requires c.in-Plain.is

pub pick_form-pick_some-requires : goal.pick_form-pick_some-requires
pick_form-pick_some-requires t c = rw c.get.ensures (subsets-part c.args.b.now.arena.kinds c.args.form.now c.in-Subsets.members c.requires c.in-Subsets.is)

pub pick_form-pick_rule-requires : goal.pick_form-pick_rule-requires
pick_form-pick_rule-requires t c =
    (grind (arith, the_lemmas, common_steps), rw c.get-in-Functions.ensures (functions-part c.args.b.now.arena.kinds c.args.form.now c.in-Functions.results c.in-Functions.s c.requires c.in-Functions.is))

pub pick_form-pick_record-requires : goal.pick_form-pick_record-requires
pick_form-pick_record-requires t c =
    (grind (arith, the_lemmas, common_steps), rw (c.as_slice.ensures, c.as_slice-in-Records.ensures) (records-part c.args.b.now.arena.kinds c.args.form.now c.in-Records.names c.in-Records.forms c.requires c.in-Records.is))

pub pick_form-pick_tuple-requires : goal.pick_form-pick_tuple-requires
pick_form-pick_tuple-requires t c =
    (grind (arith, the_lemmas, common_steps), rw c.as_slice-in-Tuples.ensures (tuples-part c.args.b.now.arena.kinds c.args.form.now c.in-Tuples.forms c.requires c.in-Tuples.is))

pub pick_form-returns-in_ok-r-in-Plain-clause-none : goal.pick_form-returns-in_ok-r-in-Plain-clause-none
pick_form-returns-in_ok-r-in-Plain-clause-none t c = λ e.
    none-plain c.args.b.now c.args.form.now c.in-Plain.s c.requires c.in-Plain.is (c.in_ok-r-in-Plain.ensures.none.0 e)

pub pick_form-returns-in_ok-r-in-Plain-clause-picks : goal.pick_form-returns-in_ok-r-in-Plain-clause-picks
pick_form-returns-in_ok-r-in-Plain-clause-picks t c =
    if-some _ _ _ (λ r p. picks-plain c.args.b.now c.args.form.now c.in-Plain.s c.requires c.in-Plain.is _ r p) c.in_ok-r-in-Plain.ensures.picks

pub pick_form-returns-in-Ints-clause-none : goal.pick_form-returns-in-Ints-clause-none
pick_form-returns-in-Ints-clause-none t c = λ e. none-endless c.args.b.now c.args.form.now (endless-any c.args.b.now c.args.form.now c.in-Ints.is)

pub pick_form-returns-in_ok-r-in-Subsets-clause-picks : goal.pick_form-returns-in_ok-r-in-Subsets-clause-picks
pick_form-returns-in_ok-r-in-Subsets-clause-picks t c =
    picks-subsets-form c.args.b.now _ c.args.form.now c.in-Subsets.members _ c.in-Subsets.is (rw c.get.ensures at c.in_ok-r-in-Subsets.ensures.picks)

pub pick_form-returns-in_ok-r-in-Functions-clause-picks : goal.pick_form-returns-in_ok-r-in-Functions-clause-picks
pick_form-returns-in_ok-r-in-Functions-clause-picks t c =
    picks-functions-form c.args.b.now _ c.args.form.now c.in-Functions.results c.in-Functions.s _ c.in-Functions.is (rw c.get-in-Functions.ensures at c.in_ok-r-in-Functions.ensures.picks)

pub pick_form-returns-in_ok-r-in-Records-clause-none : goal.pick_form-returns-in_ok-r-in-Records-clause-none
pick_form-returns-in_ok-r-in-Records-clause-none t c = λ e.
    none-records c.args.b.now c.args.form.now c.in-Records.names c.in-Records.forms c.in-Records.is ((rw c.as_slice-in-Records.ensures at c.in_ok-r-in-Records.ensures.none) e)

pub pick_form-returns-in_ok-r-in-Records-clause-picks : goal.pick_form-returns-in_ok-r-in-Records-clause-picks
pick_form-returns-in_ok-r-in-Records-clause-picks t c =
    if-some _ _ _ (λ r p. picks-records-form c.args.b.now _ c.args.form.now c.in-Records.names c.in-Records.forms r c.in-Records.is p)
    (rw (c.as_slice.ensures, c.as_slice-in-Records.ensures) at c.in_ok-r-in-Records.ensures.picks)

pub pick_form-returns-in_ok-r-in-Tuples-clause-none : goal.pick_form-returns-in_ok-r-in-Tuples-clause-none
pick_form-returns-in_ok-r-in-Tuples-clause-none t c = λ e.
    none-tuples c.args.b.now c.args.form.now c.in-Tuples.forms c.in-Tuples.is ((rw c.as_slice-in-Tuples.ensures at c.in_ok-r-in-Tuples.ensures.none) e)

pub pick_form-returns-in_ok-r-in-Tuples-clause-picks : goal.pick_form-returns-in_ok-r-in-Tuples-clause-picks
pick_form-returns-in_ok-r-in-Tuples-clause-picks t c =
    if-some _ _ _ (λ r p. picks-tuples-form c.args.b.now _ c.args.form.now c.in-Tuples.forms r c.in-Tuples.is p)
    (rw c.as_slice-in-Tuples.ensures at c.in_ok-r-in-Tuples.ensures.picks)

-- ---- functions

pub pick_rule-pick_function-requires : goal.pick_rule-pick_function-requires
pick_rule-pick_function-requires t c = rule-sets c.args.b.now c.args.s c.in-Plain.t c.args.form.now c.requires c.in-Plain.is

pub pick_rule-arguments_of-requires : goal.pick_rule-arguments_of-requires
pick_rule-arguments_of-requires t c = record { sort = c.requires.from; is = c.requires.domain }

pub pick_rule-pick_over-requires : goal.pick_rule-pick_over-requires
pick_rule-pick_over-requires t c = (
  grind (arith, the_lemmas, common_steps),
  record {
    functions = functions-later c.args.b.now _ c.args.s c.args.form.now c.requires c.in_ok-edges.ensures.grows;
    arguments = rw c.as_slice.ensures.value c.in_ok-edges.ensures.lists;
  },
)

pub pick_rule-returns-in-Plain-clause-picks : goal.pick_rule-returns-in-Plain-clause-picks
pick_rule-returns-in-Plain-clause-picks t c =
    picks-rule-plain c.args.b.now _ c.args.s c.in-Plain.t c.args.form.now _ c.requires c.in-Plain.is c.in_ok-plain.ensures.grows c.in_ok-plain.ensures.picks

pub pick_rule-returns-clause-picks : goal.pick_rule-returns-clause-picks
pick_rule-returns-clause-picks t c =
    rule-later c.args.b.now _ _ c.args.s c.args.form.now _ c.requires c.in_ok-edges.ensures.grows c.in_ok-made.ensures.picks

pub pick_over-pick_many-requires : goal.pick_over-pick_many-requires
pick_over-pick_many-requires t c =
    let h = c.requires.functions in
    (grind (arith, the_lemmas, common_steps), record { sort = h.to; is = h.results })

pub pick_over-pick_empty-requires : goal.pick_over-pick_empty-requires
pick_over-pick_empty-requires t c =
    let h = c.requires.functions in
    set-later c.args.b.now _ c.args.s (record { sort = h.from; is = h.domain }) c.in_ok-picked.ensures.grows

pub pick_over-function_from-requires : goal.pick_over-function_from-requires
pick_over-function_from-requires t c =
    let p = rw c.in-Some.is at c.in_ok-picked.ensures.picks in
    rw (c.as_slice-ids.ensures.value, c.as_slice-oks.ensures.value)
    (have-arrows c.args.b.now _ c.args.s c.args.form.now c.args.edges.now _ _ c.requires.functions c.requires.arguments c.in_ok-picked.ensures.grows p)

pub pick_over-returns-in_default-clause-picks : goal.pick_over-returns-in_default-clause-picks
pick_over-returns-in_default-clause-picks t c =
    picks-rule-none c.args.b.now _ _ _ c.args.s c.args.form.now _ c.requires.functions (Grows-refl _) c.in_ok-picked.ensures.grows
    (c.in_ok-picked.ensures.none (none-of _ (λ x k. c.in_default.not-Some x k))) c.in_ok-empty.ensures.picks

pub pick_over-returns-clause-picks : goal.pick_over-returns-clause-picks
pick_over-returns-clause-picks t c =
    let p = rw c.in-Some.is at c.in_ok-picked.ensures.picks in
    picks-made c.args.b.now _ c.args.s c.args.form.now c.args.edges.now _ _ c.requires.functions c.requires.arguments c.in_ok-picked.ensures.grows p
    _ _ c.in_ok-made.ensures.grows (rw (c.as_slice-ids.ensures.value, c.as_slice-oks.ensures.value) at c.in_ok-made.ensures.makes)

-- ---- records and tuples

pub pick_record-pick_each-requires : goal.pick_record-pick_each-requires
pick_record-pick_each-requires t c = (grind (arith, the_lemmas, common_steps), c.requires.sorts)

pub pick_record-returns-in_default-clause-none : goal.pick_record-returns-in_default-clause-none
pick_record-returns-in_default-clause-none t c = λ e. c.in_ok-picked.ensures.none (none-of _ (λ x k. c.in_default.not-Some x k))

pub pick_record-record_from-requires-clause-parts : goal.pick_record-record_from-requires-clause-parts
pick_record-record_from-requires-clause-parts t c =
    let p = rw c.in-Some.is at c.in_ok-picked.ensures.picks in
    rw (c.as_slice-ids.ensures.value, c.as_slice-oks.ensures.value) (picked-parts c.args.b.now _ c.args.forms.now _ _ c.requires.sorts p)

pub pick_record-record_from-requires-clause-one_each : goal.pick_record-record_from-requires-clause-one_each
pick_record-record_from-requires-clause-one_each t c =
    let p = rw c.in-Some.is at c.in_ok-picked.ensures.picks in
    rw c.as_slice-ids.ensures.value (picked-count c.args.b.now _ c.args.forms.now _ _ c.requires.sorts p ∙ sym c.requires.one_each)

pub pick_record-returns-clause-picks : goal.pick_record-returns-clause-picks
pick_record-returns-clause-picks t c =
    let p = rw c.in-Some.is at c.in_ok-picked.ensures.picks in
    picks-record c.args.b.now _ _ c.args.forms.now _ _ c.requires.sorts p c.in_ok-r.ensures.grows c.args.names.now _ c.requires.one_each
    (rw (c.as_slice-ids.ensures.value, c.as_slice-oks.ensures.value) at c.in_ok-r.ensures.makes)

pub pick_tuple-pick_each-requires : goal.pick_tuple-pick_each-requires
pick_tuple-pick_each-requires t c = (grind (arith, the_lemmas, common_steps), c.requires)

pub pick_tuple-returns-in_default-clause-none : goal.pick_tuple-returns-in_default-clause-none
pick_tuple-returns-in_default-clause-none t c = λ e. c.in_ok-picked.ensures.none (none-of _ (λ x k. c.in_default.not-Some x k))

pub pick_tuple-tuple_from-requires : goal.pick_tuple-tuple_from-requires
pick_tuple-tuple_from-requires t c =
    let p = rw c.in-Some.is at c.in_ok-picked.ensures.picks in
    rw c.as_slice-oks.ensures.value (picked-parts c.args.b.now _ c.args.forms.now _ _ c.requires p)

pub pick_tuple-returns-clause-picks : goal.pick_tuple-returns-clause-picks
pick_tuple-returns-clause-picks t c =
    let p = rw c.in-Some.is at c.in_ok-picked.ensures.picks in
    picks-tuple c.args.b.now _ _ c.args.forms.now _ _ c.requires p c.in_ok-r.ensures.grows _ (rw c.as_slice-oks.ensures.value at c.in_ok-r.ensures.makes)

-- ---- several forms

pub pick_each-loop-i-init : goal.pick_each-loop-i-init
pick_each-loop-i-init t c = record { grows = Grows-refl _; picks = picks-first c.args.b.now c.args.forms.now _ _ c.new-cells.ensures.items c.new-lits.ensures.items }

pub pick_each-pick_form-requires : goal.pick_each-pick_form-requires
pick_each-pick_form-requires t c =
    (grind (arith, the_lemmas, common_steps), part-asked c.args.b.now c.loop-i.b c.args.forms.now c.loop-i.i c.index-forms-i.result c.requires c.loop-i.invariant.grows c.loop-i-test.true c.index-forms-i.is)

pub pick_each-returns-in_default-clause-none : goal.pick_each-returns-in_default-clause-none
pick_each-returns-in_default-clause-none t c = λ e.
    none-at c.args.b.now c.loop-i.b c.args.forms.now c.loop-i.i c.index-forms-i.result c.requires c.loop-i.invariant.grows c.loop-i-test.true c.index-forms-i.is
    (c.in_ok-picked.ensures.none (none-of _ (λ x k. c.in_default.not-Some x k)))

pub pick_each-loop-i-preserved : goal.pick_each-loop-i-preserved
pick_each-loop-i-preserved t c =
    let i = c.loop-i.invariant in
    let p = rw c.in-Some.is at c.in_ok-picked.ensures.picks in
    record {
      grows = Grows-trans _ _ _ i.grows c.in_ok-picked.ensures.grows;
      picks = picks-next c.args.b.now c.loop-i.b _ c.args.forms.now c.loop-i.i c.index-forms-i.result _ _ _ _ _ _ c.requires i.grows c.in_ok-picked.ensures.grows c.loop-i-test.true c.index-forms-i.is
          i.picks p c.in_ok-push.ensures.items c.in_ok-push-2.ensures.items;
    }

pub pick_each-returns-clause-picks : goal.pick_each-returns-clause-picks
pick_each-returns-clause-picks t c = picks-all c.args.b.now _ c.args.forms.now c.loop-i.i _ _ c.loop-i-test.false c.loop-i.invariant.picks

pub pick_many-loop-i-init : goal.pick_many-loop-i-init
pick_many-loop-i-init t c = record { grows = Grows-refl _; picks = picks-none c.args.b.now _ _ c.new-cells.ensures.items c.new-lits.ensures.items }

pub pick_many-pick_form-requires : goal.pick_many-pick_form-requires
pick_many-pick_form-requires t c = (grind (arith, the_lemmas, common_steps), form-later c.args.b.now c.loop-i.b c.args.form.now c.requires c.loop-i.invariant.grows)

pub pick_many-returns-in_default-clause-none : goal.pick_many-returns-in_default-clause-none
pick_many-returns-in_default-clause-none t c = λ e.
    none-later c.args.b.now c.loop-i.b c.args.form.now c.requires c.loop-i.invariant.grows (c.in_ok-picked.ensures.none (none-of _ (λ x k. c.in_default.not-Some x k)))

pub pick_many-loop-i-preserved : goal.pick_many-loop-i-preserved
pick_many-loop-i-preserved t c =
    let i = c.loop-i.invariant in
    let p = rw c.in-Some.is at c.in_ok-picked.ensures.picks in
    record {
      grows = Grows-trans _ _ _ i.grows c.in_ok-picked.ensures.grows;
      picks = picks-again c.args.b.now c.loop-i.b _ c.args.form.now _ _ _ _ _ _ _ c.requires i.grows c.in_ok-picked.ensures.grows i.picks p c.in_ok-push.ensures.items c.in_ok-push-2.ensures.items;
    }
