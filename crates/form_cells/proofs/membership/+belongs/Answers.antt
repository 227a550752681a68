use Rattle.std.proofs.Common.{arith, get_or, inl, inr}
use Rattle.std.proofs.lemmas.Grind.{common_steps}
use Rattle.std.proofs.lemmas.List.{get_or_default}
use Rattle.cell_arena.proofs.Growing.{Grows-refl, Grows-trans}
use Rattle.form_cells.specs.declared.form.Form.TheFolds.{the_lemmas}
use Rattle.form_cells.proofs.BelongLemmas.{edge-asked, edge-is, edge-turn, edge_at, edges-all, edges-none, part-asked, part-bound, part-turn, parts-all, parts-none}
use Rattle.form_cells.proofs.FormArms.{asked-functions, asked-nats, asked-plain, asked-records, asked-sequences, asked-subsets, asked-tuples, fields-asked, function-meets, items-asked, meets-functions, meets-ints, meets-nats, meets-plain, meets-records, meets-sequences, meets-subsets, meets-texts, meets-tuples, results-asked, tuple-asked}
use Rattle.form_cells.proofs.membership.+belongs.Goals as goal

-- ---- belongs: what is asked

pub belongs-member-requires : goal.belongs-member-requires
belongs-member-requires t c = asked-plain c.args.b.now c.args.x c.args.form.now c.requires c.in-Plain.s c.in-Plain.is

pub belongs-is_not_negative-requires : goal.belongs-is_not_negative-requires
belongs-is_not_negative-requires t c = asked-nats c.args.b.now c.args.x c.args.form.now c.requires c.in-Nats.is

pub belongs-places_of-requires : goal.belongs-places_of-requires
belongs-places_of-requires t c = asked-sequences c.args.b.now c.args.x c.args.form.now c.requires c.in-Sequences.items c.in-Sequences.is

pub belongs-all_belong-requires : goal.belongs-all_belong-requires
belongs-all_belong-requires t c =
    (grind (arith, the_lemmas, common_steps), rw (c.as_slice.ensures.value, c.get.ensures) (items-asked c.args.b.now c.args.x c.args.form.now c.requires c.in-Sequences.items c.in-Sequences.is _ _ c.in_ok-places-in-Sequences.ensures.grows c.in_ok-places-in-Sequences.ensures.items))

pub belongs-included-requires : goal.belongs-included-requires
belongs-included-requires t c =
    (grind (arith, the_lemmas, common_steps), rw c.get-in-Subsets.ensures (asked-subsets c.args.b.now c.args.x c.args.form.now c.requires c.in-Subsets.members c.in-Subsets.is))

pub belongs-function_belongs-requires : goal.belongs-function_belongs-requires
belongs-function_belongs-requires t c =
    (grind (arith, the_lemmas, common_steps), rw c.get-in-Functions.ensures (asked-functions c.args.b.now c.args.x c.args.form.now c.requires c.in-Functions.s c.in-Functions.results c.in-Functions.is))

pub belongs-fields_of-requires : goal.belongs-fields_of-requires
belongs-fields_of-requires t c =
    rw c.as_slice-in-Records.ensures (asked-records c.args.b.now c.args.x c.args.form.now c.requires c.in-Records.names c.in-Records.forms c.in-Records.is)

pub belongs-each_belongs-requires : goal.belongs-each_belongs-requires
belongs-each_belongs-requires t c =
    (grind (arith, the_lemmas, common_steps), rw (c.as_slice-in-Records-2.ensures.value, c.as_slice-in-Records-3.ensures) (fields-asked c.args.b.now c.args.x c.args.form.now c.requires c.in-Records.names c.in-Records.forms c.in-Records.is _ (rw c.as_slice-in-Records.ensures at c.in_ok-cells-in-Records.ensures)))

pub belongs-items_of-requires : goal.belongs-items_of-requires
belongs-items_of-requires t c = asked-tuples c.args.b.now c.args.x c.args.form.now c.requires c.in-Tuples.forms c.in-Tuples.is

pub belongs-each_belongs-requires-in-Tuples : goal.belongs-each_belongs-requires-in-Tuples
belongs-each_belongs-requires-in-Tuples t c =
    (grind (arith, the_lemmas, common_steps), rw (c.as_slice-in-Tuples.ensures.value, c.as_slice-in-Tuples-2.ensures) (tuple-asked c.args.b.now c.args.x c.args.form.now c.requires c.in-Tuples.forms c.in-Tuples.is _ c.in_ok-cells-in-Tuples.ensures))

-- ---- belongs: what is answered

pub belongs-returns-in_ok-l-in-Plain-clause-value : goal.belongs-returns-in_ok-l-in-Plain-clause-value
belongs-returns-in_ok-l-in-Plain-clause-value t c = meets-plain c.args.b.now c.args.x c.args.form.now c.requires _ _ c.in-Plain.s c.in-Plain.is c.in_ok-l-in-Plain.ensures.value

pub belongs-returns-in-Nats-clause-value : goal.belongs-returns-in-Nats-clause-value
belongs-returns-in-Nats-clause-value t c =
    meets-nats c.args.b.now c.args.x c.args.form.now c.requires _ _ c.in-Nats.is c.is_not_negative.ensures

pub belongs-returns-in-Ints-clause-value : goal.belongs-returns-in-Ints-clause-value
belongs-returns-in-Ints-clause-value t c =
    elim c.in-Ints.is [
      | inl e ↦ meets-ints c.args.b.now c.args.x c.args.form.now c.requires _ _ e c.top.ensures.below c.top.ensures.forced
      | inr e ↦ meets-texts c.args.b.now c.args.x c.args.form.now c.requires _ _ e c.top.ensures.below c.top.ensures.forced
    ]

pub belongs-returns-in_ok-l-in-Sequences-clause-value : goal.belongs-returns-in_ok-l-in-Sequences-clause-value
belongs-returns-in_ok-l-in-Sequences-clause-value t c =
    meets-sequences c.args.b.now c.args.x c.args.form.now c.requires c.in-Sequences.items c.in-Sequences.is _ _ c.in_ok-places-in-Sequences.ensures.grows c.in_ok-places-in-Sequences.ensures.items _ _ c.in_ok-l-in-Sequences.ensures.grows
    (rw (c.as_slice.ensures.value, c.get.ensures) at c.in_ok-l-in-Sequences.ensures.value)

pub belongs-returns-in_ok-l-in-Subsets-clause-value : goal.belongs-returns-in_ok-l-in-Subsets-clause-value
belongs-returns-in_ok-l-in-Subsets-clause-value t c =
    meets-subsets c.args.b.now c.args.x c.args.form.now c.requires c.in-Subsets.members c.in-Subsets.is _ _ (rw c.get-in-Subsets.ensures at c.in_ok-l-in-Subsets.ensures.value)

pub belongs-returns-in_ok-l-in-Functions-clause-value : goal.belongs-returns-in_ok-l-in-Functions-clause-value
belongs-returns-in_ok-l-in-Functions-clause-value t c =
    meets-functions c.args.b.now c.args.x c.args.form.now c.requires c.in-Functions.s c.in-Functions.results c.in-Functions.is _ _ (rw c.get-in-Functions.ensures at c.in_ok-l-in-Functions.ensures.value)

pub belongs-returns-in_ok-l-in-Records-clause-value : goal.belongs-returns-in_ok-l-in-Records-clause-value
belongs-returns-in_ok-l-in-Records-clause-value t c =
    meets-records c.args.b.now c.args.x c.args.form.now c.requires c.in-Records.names c.in-Records.forms c.in-Records.is _ (rw c.as_slice-in-Records.ensures at c.in_ok-cells-in-Records.ensures) _ _
    (rw (c.as_slice-in-Records-2.ensures.value, c.as_slice-in-Records-3.ensures) at c.in_ok-l-in-Records.ensures.value)

pub belongs-returns-in_ok-l-in-Tuples-clause-value : goal.belongs-returns-in_ok-l-in-Tuples-clause-value
belongs-returns-in_ok-l-in-Tuples-clause-value t c =
    meets-tuples c.args.b.now c.args.x c.args.form.now c.requires c.in-Tuples.forms c.in-Tuples.is _ c.in_ok-cells-in-Tuples.ensures _ _
    (rw (c.as_slice-in-Tuples.ensures.value, c.as_slice-in-Tuples-2.ensures) at c.in_ok-l-in-Tuples.ensures.value)

-- ---- the functions behind it

pub function_belongs-all_belong-requires : goal.function_belongs-all_belong-requires
function_belongs-all_belong-requires t c =
    (grind (arith, the_lemmas, common_steps), rw c.as_slice.ensures.value (results-asked c.args.b.now c.args.f c.args.s c.args.form.now c.requires _ c.in_ok-agrees.agrees _ c.in_ok-agrees.ensures.grows c.in_ok-agrees.ensures.parted))

pub function_belongs-returns-clause-value : goal.function_belongs-returns-clause-value
function_belongs-returns-clause-value t c =
    function-meets c.args.b.now c.args.f c.args.s c.args.form.now c.requires _ c.in_ok-agrees.agrees _ c.in_ok-agrees.ensures.grows c.in_ok-agrees.ensures.parted _ _ c.in_ok-all.all _ c.in_ok-all.ensures.grows c.in_ok-l.ensures.grows
    (rw c.as_slice.ensures.value at c.in_ok-all.ensures.value) c.in_ok-l.ensures.value

pub all_belong-loop-i-init : goal.all_belong-loop-i-init
all_belong-loop-i-init t c = record { grows = Grows-refl _; tests = edges-none c.args.b.now c.args.edges.now c.args.form.now c.requires _ c.new-tests.ensures.items }

pub all_belong-belongs-requires : goal.all_belong-belongs-requires
all_belong-belongs-requires t c =
    (grind (arith, the_lemmas, common_steps), edge-asked c.args.b.now c.args.edges.now c.args.form.now c.requires c.loop-i.b c.loop-i.i (edge_at c.args.edges.now c.loop-i.i) c.loop-i.invariant.grows c.loop-i-test.true (edge-is c.args.edges.now c.loop-i.i c.loop-i-test.true))

pub all_belong-loop-i-preserved : goal.all_belong-loop-i-preserved
all_belong-loop-i-preserved t c =
    let i = c.loop-i.invariant in
    let later = Grows-trans _ _ _ i.grows c.in_ok-one.ensures.grows in
    record {
      grows = Grows-trans _ _ _ later c.in_ok-test.ensures.grows;
      tests = edge-turn c.args.b.now c.args.edges.now c.args.form.now c.requires c.loop-i.b _ _ c.loop-i.i (edge_at c.args.edges.now c.loop-i.i) c.in_ok-one.one c.in_ok-test.test _ _ i.grows c.in_ok-one.ensures.grows c.in_ok-test.ensures.grows c.loop-i-test.true (edge-is c.args.edges.now c.loop-i.i c.loop-i-test.true)
          i.tests c.in_ok-one.ensures.value c.in_ok-test.ensures.value c.in_ok-push.ensures.items;
    }

pub all_belong-returns-clause-value : goal.all_belong-returns-clause-value
all_belong-returns-clause-value t c =
    edges-all c.args.b.now c.args.edges.now c.args.form.now c.requires c.loop-i.b _ c.loop-i.i _ _ c.in_ok-l.l c.loop-i-test.false c.loop-i.invariant.tests c.in_ok-l.ensures.grows c.as_slice.ensures.value c.in_ok-l.ensures.value

pub each_belongs-loop-i-init : goal.each_belongs-loop-i-init
each_belongs-loop-i-init t c = record { grows = Grows-refl _; tests = parts-none c.args.b.now c.args.cells.now c.args.forms.now c.requires _ c.new-tests.ensures.items }

pub each_belongs-loop-i-preserved : goal.each_belongs-loop-i-preserved
each_belongs-loop-i-preserved t c =
    let i = c.loop-i.invariant in
    record {
      grows = Grows-trans _ _ _ i.grows c.in_ok-test.ensures.grows;
      tests = part-turn c.args.b.now c.args.cells.now c.args.forms.now c.requires c.loop-i.b _ c.loop-i.i (get_or c.args.cells.now c.loop-i.i (record { index = 0 })) c.index-forms-i.result c.in_ok-test.test _ _ i.grows c.in_ok-test.ensures.grows c.loop-i-test.true
          (get_or_default c.args.cells.now c.loop-i.i _ _ (part-bound c.args.b.now c.args.cells.now c.args.forms.now c.requires c.loop-i.i c.loop-i-test.true)) c.index-forms-i.is i.tests c.in_ok-test.ensures.value c.in_ok-push.ensures.items;
    }

pub each_belongs-returns-clause-value : goal.each_belongs-returns-clause-value
each_belongs-returns-clause-value t c =
    parts-all c.args.b.now c.args.cells.now c.args.forms.now c.requires c.loop-i.b _ c.loop-i.i _ _ c.in_ok-l.l c.loop-i-test.false c.loop-i.invariant.tests c.in_ok-l.ensures.grows c.as_slice.ensures.value c.in_ok-l.ensures.value

pub each_belongs-bounds-cells-i : goal.each_belongs-bounds-cells-i
each_belongs-bounds-cells-i t c = part-bound c.args.b.now c.args.cells.now c.args.forms.now c.requires c.loop-i.i c.loop-i-test.true

pub each_belongs-belongs-requires : goal.each_belongs-belongs-requires
each_belongs-belongs-requires t c =
    (grind (arith, the_lemmas, common_steps), part-asked c.args.b.now c.args.cells.now c.args.forms.now c.requires c.loop-i.b c.loop-i.i (get_or c.args.cells.now c.loop-i.i (record { index = 0 })) c.index-forms-i.result c.loop-i.invariant.grows c.loop-i-test.true (get_or_default c.args.cells.now c.loop-i.i _ _ (part-bound c.args.b.now c.args.cells.now c.args.forms.now c.requires c.loop-i.i c.loop-i-test.true)) c.index-forms-i.is)
