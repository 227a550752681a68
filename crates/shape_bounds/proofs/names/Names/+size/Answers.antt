use Rattle.std.proofs.Common.{[], ◌∷◌, ◌++◌, ◌≡◌, ◌∙◌, ap, arith, get_or, length, drop, refl, map, sym}
use Rattle.std.proofs.lemmas.Int.{to_z-of_z}
use Rattle.std.proofs.Common.{pos}
use mir.Syntax.{w128}
use Rattle.kernel_shapes.specs.Codes.{mean}
use Rattle.kernel_shapes.specs.Rows.{applied_at, number}
use Rattle.kernel_shapes.specs.Kernel.{ker_sized}
use Rattle.kernel_shapes.specs.Shape.{inside}
use Rattle.shape_bounds.specs.Sizes.{stands}
use Rattle.kernel_shapes.specs.Rows.{joined_at}
use Rattle.shape_bounds.proofs.PathSteps.{bound_one, changed_visited, right_beyond, update_sized}
use Rattle.shape_bounds.proofs.FoldSteps.{fold_visited, steps_whole, turns_next}
use Rattle.shape_bounds.proofs.Families.{any_site, constant_sized, domain_sized, each_next, functions_sized, item_sized, member_sized, no_case_sized, one_child, one_first, range_sized, subsets_sized, three_but_first, three_children, two_children, two_first, under_sized}
use Rattle.shape_bounds.proofs.Visits.{binder_visited, endless_visited, listed_visited, plain_visited, product_visited}
use Rattle.shape_bounds.proofs.names.Names.+size.Goals as goal

pub binder-returns : goal.binder-returns
binder-returns t c =
    binder_visited c.args.self.now c.sizes.new.self _ c.count.new.self c.args.k.now c.as_slice-args.result.now c.as_slice-numbers.result.now c.index-args-numbers.result
    c.in_ok-sets.sets.items c.as_slice.result.now c.in_ok-members.members.items c.as_slice-2.result.now c.as_slice-3.result.now c.in_ok-body.body c.in_ok-shape.shape
    c.requires.sized c.requires.kind c.as_slice-args.ensures c.as_slice-numbers.ensures (sym c.if-is_empty.false ∙ c.is_empty.ensures) c.if-args-numbers.false c.index-args-numbers.is
    c.in_ok-sets.ensures c.as_slice.ensures.value c.in_ok-members.ensures c.as_slice-2.ensures.value c.in_ok-body.ensures c.as_slice-3.ensures.value c.in_ok-shape.ensures c.count.ensures

pub under-returns : goal.under-returns
under-returns t c =
    under_sized c.args.self.now c.bind.new.self c.size.new.self (record { alloc = c.size.new.self.alloc; width = c.size.new.self.width; state = c.size.new.self.state; next = c.size.new.self.next; bound = c.truncate.new.self; first = c.size.new.self.first }) _ c.args.body.now c.args.numbers.now
    (map mean c.args.shapes.now) c.in_ok-shape.shape c.in_ok-bind.ensures c.in_ok-shape.ensures refl refl refl refl c.truncate.ensures.items (ap length c.as_slice-bound.ensures.value)

pub endless-returns : goal.endless-returns
endless-returns t c = endless_visited c.args.self.now c.sizes.new.self c.args.k.now c.as_slice-args.result.now _ c.as_slice-args.ensures c.requires.kind c.in_ok-sizes.ensures

pub functions-returns-in_ok-shape-in-len2 : goal.functions-returns-in_ok-shape-in-len2
functions-returns-in_ok-shape-in-len2 t c =
    functions_sized c.args.self.now c.size.new.self c.size-in-len2.new.self c.count_walked.new.self c.args.k.now c.arguments-item.result c.values-item.result
    (stands c.args.at) (stands c.operand_site.result) c.in_ok-a-in-len2.a c.in_ok-b-in-len2.b c.in_ok-shape-in-len2.shape c.requires.sized c.requires.kind
    (sym c.as_slice.ensures ∙ two_children c.as_slice.result.now _ _ c.in-len2.len_at_least c.in-len2.len_below c.arguments-item.is c.values-item.is)
    c.operand_site.ensures c.in_ok-a-in-len2.ensures c.in_ok-b-in-len2.ensures c.in_ok-shape-in-len2.ensures c.count_walked.ensures

pub item-returns-in_ok-shape-in-len1 : goal.item-returns-in_ok-shape-in-len1
item-returns-in_ok-shape-in-len1 t c =
    item_sized c.args.self.now c.size.new.self c.count.new.self c.args.k.now c.whole-item.result c.args.i c.in_ok-a-in-len1.a c.in_ok-shape-in-len1.shape c.requires.kind
    (sym c.as_slice.ensures ∙ one_child c.as_slice.result.now _ c.in-len1.len_at_least c.in-len1.len_below c.whole-item.is)
    c.in_ok-a-in-len1.ensures (c.in_ok-shape-in-len1.ensures ∙ c.applied.ensures ∙ ap (λ z. applied_at (mean c.in_ok-a-in-len1.a) (number z)) (to_z-of_z w128 (pos c.args.i) (omega arith))) c.count.ensures

pub membership-returns-in_ok-size-in-len2-2 : goal.membership-returns-in_ok-size-in-len2-2
membership-returns-in_ok-size-in-len2-2 t c =
    member_sized c.args.self.now c.size.new.self c.size-in-len2.new.self c.args.k.now c.member-item.result c.set-item.result _ _ c.requires.kind
    (sym c.as_slice.ensures ∙ two_children c.as_slice.result.now _ _ c.in-len2.len_at_least c.in-len2.len_below c.member-item.is c.set-item.is)
    c.in_ok-size-in-len2.ensures c.in_ok-size-in-len2-2.ensures

pub plain-returns : goal.plain-returns
plain-returns t c =
    plain_visited c.args.self.now c.sizes.new.self c.count.new.self c.args.k.now c.as_slice-args.result.now c.in_ok-operands.operands.items c.as_slice-shapes.result.now c.in_ok-shape.shape
    c.requires.sized c.as_slice-args.ensures c.as_slice-shapes.ensures.value _ (c.is_plain.ensures c.if-not-is_plain.false)
    c.in_ok-operands.ensures c.second_literal.ensures c.in_ok-shape.ensures c.count.ensures

pub product-returns : goal.product-returns
product-returns t c =
    product_visited c.args.self.now c.sizes.new.self c.count_walked.new.self c.args.k.now c.as_slice-args.result.now c.in_ok-operands.operands.items c.as_slice-shapes.result.now c.in_ok-shape.shape
    c.requires.sized c.as_slice-args.ensures c.as_slice-shapes.ensures.value (stands c.args.at) (stands c.operand_site.result) c.requires.kind
    c.operand_site.ensures c.in_ok-operands.ensures c.in_ok-shape.ensures c.count_walked.ensures

pub range-returns-in_ok-shape-in-len2-up : goal.range-returns-in_ok-shape-in-len2-up
range-returns-in_ok-shape-in-len2-up t c =
    range_sized c.args.self.now c.size.new.self c.size-in-len2-up.new.self c.count.new.self c.args.k.now c.low-item.result c.high-item.result _
    c.in_ok-a-in-len2-up.a c.in_ok-b-in-len2-up.b c.in_ok-shape-in-len2-up.shape c.requires.sized c.requires.kind
    (sym c.as_slice.ensures ∙ two_first c.as_slice.result.now _ _ c.in-len2-up.len_at_least c.low-item.is c.high-item.is)
    c.in_ok-a-in-len2-up.ensures c.in_ok-b-in-len2-up.ensures c.in_ok-shape-in-len2-up.ensures c.count.ensures

pub size-returns-in-Const : goal.size-returns-in-Const
size-returns-in-Const t c = constant_sized c.args.self.now c.args.k.now c.in-Const.value c.constant.result c.in-Const.is c.constant.ensures (stands c.args.at)

pub size-returns-in-NoCase : goal.size-returns-in-NoCase
size-returns-in-NoCase t c = no_case_sized c.args.self.now c.args.k.now c.in-NoCase.is (stands c.args.at)

pub size-returns-in-Name : goal.size-returns-in-Name
size-returns-in-Name t c = any_site c.args.self.now c.name.new.self (ker_sized c.args.self.now.width c.args.k.now) (stands c.args.at) c.name.result c.name.ensures

pub size-returns-in-Bound : goal.size-returns-in-Bound
size-returns-in-Bound t c = any_site c.args.self.now c.bound_name.new.self (ker_sized c.args.self.now.width c.args.k.now) (stands c.args.at) c.bound_name.result c.bound_name.ensures

pub size-returns-in-Range : goal.size-returns-in-Range
size-returns-in-Range t c = any_site c.args.self.now c.range.new.self (ker_sized c.args.self.now.width c.args.k.now) (stands c.args.at) c.range.result c.range.ensures

pub size-returns-in-Item : goal.size-returns-in-Item
size-returns-in-Item t c = any_site c.args.self.now c.item.new.self (ker_sized c.args.self.now.width c.args.k.now) (stands c.args.at) c.item.result c.item.ensures

pub size-returns-in_default : goal.size-returns-in_default
size-returns-in_default t c = any_site c.args.self.now c.plain.new.self (ker_sized c.args.self.now.width c.args.k.now) (stands c.args.at) c.plain.result c.plain.ensures

pub size-returns-in-TextForm : goal.size-returns-in-TextForm
size-returns-in-TextForm t c = any_site c.args.self.now c.endless.new.self (ker_sized c.args.self.now.width c.args.k.now) (stands c.args.at) c.endless.result c.endless.ensures

pub size-returns-in-IntForm : goal.size-returns-in-IntForm
size-returns-in-IntForm t c = any_site c.args.self.now c.endless-in-IntForm.new.self (ker_sized c.args.self.now.width c.args.k.now) (stands c.args.at) c.endless-in-IntForm.result c.endless-in-IntForm.ensures

pub size-returns-in-Member : goal.size-returns-in-Member
size-returns-in-Member t c = any_site c.args.self.now c.membership.new.self (ker_sized c.args.self.now.width c.args.k.now) (stands c.args.at) c.membership.result c.membership.ensures

pub size-returns-in-Some : goal.size-returns-in-Some
size-returns-in-Some t c = any_site c.args.self.now c.binder.new.self (ker_sized c.args.self.now.width c.args.k.now) (stands c.args.at) c.binder.result c.binder.ensures

pub size-returns-in-Filter : goal.size-returns-in-Filter
size-returns-in-Filter t c = any_site c.args.self.now c.binder-in-Filter.new.self (ker_sized c.args.self.now.width c.args.k.now) (stands c.args.at) c.binder-in-Filter.result c.binder-in-Filter.ensures

pub subsets-returns-in_ok-shape-in-len1 : goal.subsets-returns-in_ok-shape-in-len1
subsets-returns-in_ok-shape-in-len1 t c =
    subsets_sized c.args.self.now c.size.new.self c.count_walked.new.self c.args.k.now c.set-item.result (stands c.args.at) (stands c.set_site.result)
    c.in_ok-operand-in-len1.operand c.in_ok-shape-in-len1.shape c.requires.sized c.requires.kind
    (sym c.as_slice.ensures ∙ one_child c.as_slice.result.now _ c.in-len1.len_at_least c.in-len1.len_below c.set-item.is)
    c.set_site.ensures c.in_ok-operand-in-len1.ensures c.in_ok-shape-in-len1.ensures c.count_walked.ensures

pub sizes-loop-i-preserved : goal.sizes-loop-i-preserved
sizes-loop-i-preserved t c =
    each_next c.args.self.now c.loop-i.self c.size.new.self c.args.ks.now c.loop-i.i c.index-ks-i.result (stands c.args.at) c.loop-i.shapes.items c.push.new.self.items c.in_ok-shape.shape
    c.loop-i.invariant (omega arith) c.index-ks-i.is c.in_ok-shape.ensures c.in_ok-push.ensures.items

pub domain-returns-in_ok-shape-in-len1 : goal.domain-returns-in_ok-shape-in-len1
domain-returns-in_ok-shape-in-len1 t c =
    domain_sized c.args.self.now c.size.new.self c.count.new.self c.args.k.now c.whole-item.result c.in_ok-a-in-len1.a c.in_ok-shape-in-len1.shape c.requires.sized c.requires.kind
    (sym c.as_slice.ensures ∙ one_child c.as_slice.result.now _ c.in-len1.len_at_least c.in-len1.len_below c.whole-item.is)
    c.in_ok-a-in-len1.ensures c.in_ok-shape-in-len1.ensures c.count.ensures

pub listed-returns : goal.listed-returns
listed-returns t c =
    listed_visited c.args.self.now c.sizes.new.self c.count.new.self c.args.k.now c.as_slice-args.result.now c.in_ok-items.items.items c.in_ok-shape.shape
    c.requires.sized c.as_slice-args.ensures c.requires.kind c.in_ok-items.ensures c.in_ok-shape.ensures c.count.ensures

pub size-returns-in-Domain : goal.size-returns-in-Domain
size-returns-in-Domain t c = any_site c.args.self.now c.domain.new.self (ker_sized c.args.self.now.width c.args.k.now) (stands c.args.at) c.domain.result c.domain.ensures

pub size-returns-in-TupOf : goal.size-returns-in-TupOf
size-returns-in-TupOf t c = any_site c.args.self.now c.listed.new.self (ker_sized c.args.self.now.width c.args.k.now) (stands c.args.at) c.listed.result c.listed.ensures

pub fold-returns-in_ok-shape-in-len3 : goal.fold-returns-in_ok-shape-in-len3
fold-returns-in_ok-shape-in-len3 t c =
    fold_visited c.args.self.now c.size.new.self c.size-in-len3.new.self c.steps.new.self c.count.new.self c.args.k.now c.body-item.result c.start-item.result c.list-item.result
    c.as_slice-numbers.result.now c.in_ok-first-in-len3.first c.in_ok-items-in-len3.items c.in_ok-shape-in-len3.shape c.in_ok-values-in-len3.values.items c.as_slice-in-len3.result.now c.requires.kind
    (sym c.as_slice.ensures ∙ three_children c.as_slice.result.now _ _ _ c.in-len3.len_at_least c.in-len3.len_below c.body-item.is c.start-item.is c.list-item.is)
    c.as_slice-numbers.ensures c.if-numbers-ne2.false c.in_ok-first-in-len3.ensures c.in_ok-items-in-len3.ensures c.in_ok-values-in-len3.ensures c.as_slice-in-len3.ensures.value
    c.in_ok-shape-in-len3.ensures c.count.ensures

pub size-returns-in-FoldLeft : goal.size-returns-in-FoldLeft
size-returns-in-FoldLeft t c = any_site c.args.self.now c.fold.new.self (ker_sized c.args.self.now.width c.args.k.now) (stands c.args.at) c.fold.result c.fold.ensures

pub steps-loop-preserved : goal.steps-loop-preserved
steps-loop-preserved t c =
    turns_next c.args.self.now c.loop.self c.under.new.self c.args.body.now c.args.numbers.now c.loop.counter (mean c.args.start) (inside (mean c.args.list.now))
    c.loop.values.items c.as_slice.result.now c.push.new.self.items c.loop.value c.in_ok-next.next c.loop.invariant
    (ap (map mean) c.as_slice.ensures.value ∙ c.in_ok-shapes.ensures ∙ ap (λ a. mean c.loop.value ∷ a ∷ []) c.inside.ensures) c.in_ok-next.ensures c.in_ok-push.ensures.items

pub steps-returns : goal.steps-returns
steps-returns t c =
    let all : c.loop.counter ≡ c.count-number.result = omega arith in
    steps_whole c.args.self.now c.loop.self (ker_sized c.args.self.now.width c.args.body.now) c.args.numbers.now c.loop.counter (mean c.args.start) (mean c.args.list.now)
    (c.loop.values.items ++ c.loop.value ∷ []) c.push-2.new.self.items c.loop.invariant (all ∙ c.count-number.ensures) (λ e. c.if-number.false (sym all ∙ e)) c.in_ok-push-2.ensures.items

pub size-returns-in-Update : goal.size-returns-in-Update
size-returns-in-Update t c = any_site c.args.self.now c.update.new.self (ker_sized c.args.self.now.width c.args.k.now) (stands c.args.at) c.update.result c.update.ensures

pub update-returns-in_ok-shape-in-len1-up : goal.update-returns-in_ok-shape-in-len1-up
update-returns-in_ok-shape-in-len1-up t c =
    update_sized c.args.self.now c.size.new.self c.changed.new.self c.count.new.self c.args.k.now c.updated-item.result (drop 1 c.as_slice.result.now)
    c.in_ok-whole-in-len1-up.whole c.in_ok-shape-in-len1-up.shape c.requires.kind
    (sym c.as_slice.ensures ∙ one_first c.as_slice.result.now _ c.in-len1-up.len_at_least c.updated-item.is)
    c.in_ok-whole-in-len1-up.ensures c.in_ok-shape-in-len1-up.ensures c.count.ensures

pub changed-returns-in_ok-shape-in-len3 : goal.changed-returns-in_ok-shape-in-len3
changed-returns-in_ok-shape-in-len3 t c =
    changed_visited c.args.self.now c.size.new.self c.right.new.self c.args.k.now (get_or c.as_slice.result.now 0 c.args.k.now) c.index-item.result c.right-item.result
    c.as_slice-numbers.result.now (get_or c.as_slice-numbers.result.now 0 0) (mean c.args.whole.now) c.in_ok-size-in-len3.field-0 c.in_ok-new-in-len3.new c.in_ok-part-in-len3.part
    c.in_ok-shape-in-len3.shape c.requires.kind
    (sym c.as_slice.ensures ∙ three_but_first c.as_slice.result.now _ _ _ c.in-len3.len_at_least c.in-len3.len_below c.index-item.is c.right-item.is)
    c.as_slice-numbers.ensures c.if-numbers-ne1.false refl c.in_ok-size-in-len3.ensures
    (c.in_ok-part-in-len3.ensures ∙ c.applied.ensures ∙ ap (applied_at (mean c.args.whole.now)) c.literal_of-written.ensures) c.in_ok-new-in-len3.ensures
    (c.in_ok-shape-in-len3.ensures ∙ ap (λ l. joined_at (l ∷ []) (mean c.in_ok-new-in-len3.new) (mean c.args.whole.now)) c.literal_of-written.ensures)

pub right-returns : goal.right-returns
right-returns t c =
    right_beyond c.args.self.now
    (record { alloc = c.args.self.now.alloc; width = c.args.self.now.width; state = c.args.self.now.state; next = c.args.self.now.next; bound = c.push.new.self; first = c.args.self.now.first })
    c.changed.new.self
    (record { alloc = c.changed.new.self.alloc; width = c.changed.new.self.width; state = c.changed.new.self.state; next = c.changed.new.self.next; bound = c.truncate.new.self; first = c.changed.new.self.first })
    _ c.args.place c.args.number c.args.right.now (mean c.args.part) c.in_ok-shape.shape
    (bound_one c.args.self.now _ c.args.number c.in_ok-copy.copy (mean c.args.part) refl refl refl refl c.in_ok-push.ensures.items (ap mean c.in_ok-copy.ensures))
    c.in_ok-shape.ensures (sym c.goes_on.ensures ∙ c.if-not-goes_on.false) refl refl refl refl c.truncate.ensures.items (ap length c.as_slice-bound.ensures.value)
