use Rattle.std.proofs.Common.{arith, rules, sym, ◌∙◌}
use Rattle.cell_arena.specs.Cells.{AllDiffer}
use Rattle.std.proofs.lemmas.Grind.{common_steps}
use Rattle.cell_arena.proofs.Growing.{Grows-refl, Grows-trans}
use Rattle.form_cells.specs.declared.form.Form.TheFolds.{the_lemmas}
use Rattle.form_choices.proofs.Listings.{each-all, each-count, each-more, each-none, each-sets, endless-any, functions-part, lists-functions, lists-none, lists-plain, lists-records-form, lists-subsets, lists-tuples-form, part-asked, records-listed, records-part, set-of-form, sets-of-functions, subsets-part, tuples-listed, tuples-part}
use Rattle.form_choices.proofs.listing.+lists.Goals as goal

-- ---- list_form

pub list_form-list_form-requires : goal.list_form-list_form-requires
list_form-list_form-requires t c =
    (grind (arith, the_lemmas, common_steps), rw c.get.ensures (subsets-part c.args.b.now.arena.kinds c.args.form.now c.in-Subsets.members c.requires c.in-Subsets.is))

pub list_form-subsets-requires : goal.list_form-subsets-requires
list_form-subsets-requires t c =
    set-of-form c.args.b.now _ c.in-Subsets.members _ (subsets-part c.args.b.now.arena.kinds c.args.form.now c.in-Subsets.members c.requires c.in-Subsets.is)
    (rw c.get.ensures at c.in_ok-set-in-Subsets.ensures.lists)

pub list_form-list_form-requires-in-Functions : goal.list_form-list_form-requires-in-Functions
list_form-list_form-requires-in-Functions t c =
    let p = functions-part c.args.b.now.arena.kinds c.args.form.now c.in-Functions.results c.in-Functions.s c.requires c.in-Functions.is in
    (grind (arith, the_lemmas, common_steps), rw c.get-in-Functions.ensures (record { sort = p.to; is = p.results }))

pub list_form-functions-requires : goal.list_form-functions-requires
list_form-functions-requires t c =
    sets-of-functions c.args.b.now _ c.args.form.now c.in-Functions.results c.in-Functions.s _ c.requires c.in-Functions.is c.in_ok-set-in-Functions.ensures.grows
    (rw c.get-in-Functions.ensures at c.in_ok-set-in-Functions.ensures.lists)

pub list_form-list_records-requires : goal.list_form-list_records-requires
list_form-list_records-requires t c =
    (grind (arith, the_lemmas, common_steps), rw (c.as_slice.ensures, c.as_slice-in-Records.ensures) (records-part c.args.b.now.arena.kinds c.args.form.now c.in-Records.names c.in-Records.forms c.requires c.in-Records.is))

pub list_form-list_tuples-requires : goal.list_form-list_tuples-requires
list_form-list_tuples-requires t c =
    (grind (arith, the_lemmas, common_steps), rw c.as_slice-in-Tuples.ensures (tuples-part c.args.b.now.arena.kinds c.args.form.now c.in-Tuples.forms c.requires c.in-Tuples.is))

pub list_form-returns-in-Plain-clause-lists : goal.list_form-returns-in-Plain-clause-lists
list_form-returns-in-Plain-clause-lists t c = lists-plain c.args.b.now c.args.form.now c.in-Plain.s c.requires c.in-Plain.is

pub list_form-returns-in_ok-none-in-Ints-clause-lists : goal.list_form-returns-in_ok-none-in-Ints-clause-lists
list_form-returns-in_ok-none-in-Ints-clause-lists t c =
    lists-none c.args.b.now _ c.args.form.now _ c.in_ok-none-in-Ints.ensures.set (endless-any c.args.b.now c.args.form.now c.in-Ints.is)

pub list_form-returns-in_ok-id-in-Subsets-clause-lists : goal.list_form-returns-in_ok-id-in-Subsets-clause-lists
list_form-returns-in_ok-id-in-Subsets-clause-lists t c =
    lists-subsets c.args.b.now _ _ c.args.form.now c.in-Subsets.members _ _ c.requires c.in-Subsets.is c.in_ok-id-in-Subsets.ensures.grows
    (rw c.get.ensures at c.in_ok-set-in-Subsets.ensures.lists) c.in_ok-id-in-Subsets.ensures.powerset

pub list_form-returns-in_ok-id-in-Functions-clause-lists : goal.list_form-returns-in_ok-id-in-Functions-clause-lists
list_form-returns-in_ok-id-in-Functions-clause-lists t c =
    lists-functions c.args.b.now _ _ c.args.form.now c.in-Functions.results c.in-Functions.s _ _ c.requires c.in-Functions.is c.in_ok-set-in-Functions.ensures.grows c.in_ok-id-in-Functions.ensures.grows
    (rw c.get-in-Functions.ensures at c.in_ok-set-in-Functions.ensures.lists) c.in_ok-id-in-Functions.ensures.set

pub list_form-returns-in_ok-id-in-Records-clause-lists : goal.list_form-returns-in_ok-id-in-Records-clause-lists
list_form-returns-in_ok-id-in-Records-clause-lists t c =
    lists-records-form c.args.b.now _ c.args.form.now c.in-Records.names c.in-Records.forms _ c.in-Records.is
    (rw (c.as_slice.ensures, c.as_slice-in-Records.ensures) at c.in_ok-id-in-Records.ensures.lists)

pub list_form-returns-in_ok-id-in-Tuples-clause-lists : goal.list_form-returns-in_ok-id-in-Tuples-clause-lists
list_form-returns-in_ok-id-in-Tuples-clause-lists t c =
    lists-tuples-form c.args.b.now _ c.args.form.now c.in-Tuples.forms _ c.in-Tuples.is (rw c.as_slice-in-Tuples.ensures at c.in_ok-id-in-Tuples.ensures.lists)

-- ---- records and tuples

pub list_records-list_each-requires : goal.list_records-list_each-requires
list_records-list_each-requires t c = (grind (arith, the_lemmas, common_steps), c.requires.sorts)

pub list_records-records-requires-clause-sets : goal.list_records-records-requires-clause-sets
list_records-records-requires-clause-sets t c =
    rw c.as_slice.ensures.value (each-sets c.args.b.now _ c.args.forms.now _ c.requires.sorts c.in_ok-sets.ensures.lists)

pub list_records-records-requires-clause-one_each : goal.list_records-records-requires-clause-one_each
list_records-records-requires-clause-one_each t c =
    rw c.as_slice.ensures.value (each-count c.args.b.now _ c.args.forms.now _ c.requires.sorts c.in_ok-sets.ensures.lists ∙ sym c.requires.one_each)

pub list_records-returns-clause-lists : goal.list_records-returns-clause-lists
list_records-returns-clause-lists t c =
    let differ : AllDiffer c.args.names.now = search (rules, c.all_differ.ensures) in
    records-listed c.args.b.now _ _ c.args.forms.now _ _ c.requires.sorts c.in_ok-sets.ensures.lists c.in_ok-all.ensures.grows c.args.names.now differ c.requires.one_each
    (rw c.as_slice.ensures.value at c.in_ok-all.ensures.makes)

pub list_tuples-list_each-requires : goal.list_tuples-list_each-requires
list_tuples-list_each-requires t c = (grind (arith, the_lemmas, common_steps), c.requires)

pub list_tuples-tuples-requires : goal.list_tuples-tuples-requires
list_tuples-tuples-requires t c =
    rw c.as_slice.ensures.value (each-sets c.args.b.now _ c.args.forms.now _ c.requires c.in_ok-sets.ensures.lists)

pub list_tuples-returns-clause-lists : goal.list_tuples-returns-clause-lists
list_tuples-returns-clause-lists t c =
    tuples-listed c.args.b.now _ _ c.args.forms.now _ _ c.requires c.in_ok-sets.ensures.lists c.in_ok-all.ensures.grows
    (rw c.as_slice.ensures.value at c.in_ok-all.ensures.makes)

-- ---- several forms

pub list_each-loop-i-init : goal.list_each-loop-i-init
list_each-loop-i-init t c = record { grows = Grows-refl _; lists = each-none c.args.b.now c.args.forms.now _ c.new-sets.ensures.items }

pub list_each-list_form-requires : goal.list_each-list_form-requires
list_each-list_form-requires t c =
    (grind (arith, the_lemmas, common_steps), part-asked c.args.b.now c.loop-i.b c.args.forms.now c.loop-i.i c.index-forms-i.result c.requires c.loop-i.invariant.grows c.loop-i-test.true c.index-forms-i.is)

pub list_each-loop-i-preserved : goal.list_each-loop-i-preserved
list_each-loop-i-preserved t c =
    let i = c.loop-i.invariant in
    record {
      grows = Grows-trans _ _ _ i.grows c.in_ok-set.ensures.grows;
      lists = each-more c.args.b.now c.loop-i.b _ c.args.forms.now c.loop-i.i c.index-forms-i.result _ _ _ c.requires i.grows c.in_ok-set.ensures.grows c.loop-i-test.true c.index-forms-i.is
          i.lists c.in_ok-set.ensures.lists c.in_ok-push.ensures.items;
    }

pub list_each-returns-clause-lists : goal.list_each-returns-clause-lists
list_each-returns-clause-lists t c = each-all c.args.b.now _ c.args.forms.now c.loop-i.i _ c.loop-i-test.false c.loop-i.invariant.lists
