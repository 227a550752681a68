use Rattle.std.proofs.Common.{◌∙◌, ap, map, rules, sym}
use Rattle.std.proofs.lemmas.Int.{to_z-of_z}
use mir.Syntax.{w128}
use mir.Val.{SFits}
use Rattle.kernel_shapes.specs.Codes.{mean}
use Rattle.kernel_shapes.specs.Shape.{join}
use Rattle.shape_bounds.proofs.Fielded.{item_alone, item_both, joined_whole, name_more, names_whole, records_joined, tuples_joined}
use Rattle.shape_bounds.proofs.Means.{mean-Num}
use Rattle.shape_bounds.proofs.Rowed.{ok_same}
use Rattle.shape_bounds.proofs.joins.+join.Goals as goal
use Rattle.shape_bounds.proofs.joins.+join.Goals.{join_items-then-i-ys+in_ok-item+in_ok-push, join_items-else-i-ys+in_ok-item-2+in_ok-push-2, join_fields-then-i-ys+in_ok-item+in_ok-push, join_fields-else-i-ys+in_ok-item-2+in_ok-push-2}

pub join-returns-in-Num : goal.join-returns-in-Num
join-returns-in-Num t c =
    let f : SFits w128 c.in-Num.low = search rules in
    let g : SFits w128 c.in-Num.high = search rules in
    let h = simp to_z-of_z at c.join_numbers.ensures in
    ok_same _ _ _ (ap (λ z. join z (mean c.args.b.now)) (sym (ap mean c.in-Num.is ∙ mean-Num c.in-Num.low c.in-Num.high))) h

pub join-returns-in_ok-fields-in-Rec-b-4 : goal.join-returns-in_ok-fields-in-Rec-b-4
join-returns-in_ok-fields-in-Rec-b-4 t c =
    records_joined c.args.a.now c.args.b.now c.in-Rec.xs c.in-Rec-b-4.ys _ _ _ c.in-Rec.is c.in-Rec-b-4.is c.as_slice.ensures c.as_slice-in-Rec-b-4.ensures c.in_ok-fields-in-Rec-b-4.ensures

pub join-returns-in_ok-items-in-Tup-b : goal.join-returns-in_ok-items-in-Tup-b
join-returns-in_ok-items-in-Tup-b t c =
    tuples_joined c.args.a.now c.args.b.now c.in-Tup.xs c.in-Tup-b.ys _ _ _ c.in-Tup.is c.in-Tup-b.is c.as_slice-in-Tup-b.ensures c.as_slice-in-Tup-b-2.ensures c.in_ok-items-in-Tup-b.ensures

pub join_items-loop-i-preserved : goal.join_items-loop-i-preserved
join_items-loop-i-preserved t c = elim c.if-i-ys.branch [
  | join_items-then-i-ys+in_ok-item+in_ok-push w ↦
      item_both mean c.args.xs.now c.args.ys.now _ _ w.in_ok-item.item w.index-xs-i.result w.index-ys-i.result c.loop-i.i c.loop-i.invariant (ap (λ v. v.items) w.items-is ∙ w.in_ok-push.ensures.items) w.in_ok-item.ensures c.loop-i-test.true w.if-i-ys.true w.index-xs-i.is w.index-ys-i.is
  | join_items-else-i-ys+in_ok-item-2+in_ok-push-2 w ↦
      item_alone mean c.args.xs.now c.args.ys.now _ _ w.in_ok-item-2.item w.index-xs-i-else-i-ys.result c.loop-i.i c.loop-i.invariant (ap (λ v. v.items) w.items-is ∙ w.in_ok-push-2.ensures.items) (ap mean w.in_ok-item-2.ensures) c.loop-i-test.true w.if-i-ys.false w.index-xs-i-else-i-ys.is
]

pub join_items-returns : goal.join_items-returns
join_items-returns t c = ap (map mean) c.from_vec.ensures ∙ c.loop-i.invariant ∙ joined_whole mean c.args.xs.now c.args.ys.now c.loop-i.i c.loop-i-test.false

pub join_fields-loop-i-preserved : goal.join_fields-loop-i-preserved
join_fields-loop-i-preserved t c = elim c.if-i-ys.branch [
  | join_fields-then-i-ys+in_ok-item+in_ok-push w ↦
      let more = ap (λ v. v.items) w.fields-is ∙ w.in_ok-push.ensures.items in (
        name_more c.args.xs.now _ _ c.index-xs-i.result c.in_ok-name.name w.in_ok-item.item c.loop-i.i c.loop-i.invariant.0 more (search rules) c.loop-i-test.true c.index-xs-i.is,
        item_both (λ z. mean z.1) c.args.xs.now c.args.ys.now _ _ (c.in_ok-name.name, w.in_ok-item.item) w.index-xs-i-then-i-ys.result w.index-ys-i.result c.loop-i.i c.loop-i.invariant.1 more (search rules) c.loop-i-test.true w.if-i-ys.true w.index-xs-i-then-i-ys.is w.index-ys-i.is,
      )
  | join_fields-else-i-ys+in_ok-item-2+in_ok-push-2 w ↦
      let more = ap (λ v. v.items) w.fields-is ∙ w.in_ok-push-2.ensures.items in (
        name_more c.args.xs.now _ _ c.index-xs-i.result c.in_ok-name.name w.in_ok-item-2.item c.loop-i.i c.loop-i.invariant.0 more (search rules) c.loop-i-test.true c.index-xs-i.is,
        item_alone (λ z. mean z.1) c.args.xs.now c.args.ys.now _ _ (c.in_ok-name.name, w.in_ok-item-2.item) w.index-xs-i-else-i-ys.result c.loop-i.i c.loop-i.invariant.1 more (search rules) c.loop-i-test.true w.if-i-ys.false w.index-xs-i-else-i-ys.is,
      )
]

pub join_fields-returns : goal.join_fields-returns
join_fields-returns t c = record {
  names = ap (map (λ z. z.0)) c.from_vec.ensures ∙ c.loop-i.invariant.0 ∙ names_whole c.args.xs.now c.loop-i.i c.loop-i-test.false;
  shapes = ap (map (λ z. mean z.1)) c.from_vec.ensures ∙ c.loop-i.invariant.1 ∙ joined_whole (λ z. mean z.1) c.args.xs.now c.args.ys.now c.loop-i.i c.loop-i-test.false;
}
