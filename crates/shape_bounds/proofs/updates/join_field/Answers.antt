use Rattle.std.proofs.Common.{◌∙◌, ap, map, rules}
use Rattle.kernel_shapes.specs.Codes.{mean}
use Rattle.shape_bounds.proofs.Fielded.{name_more, names_whole}
use Rattle.shape_bounds.proofs.IndexJoins.{joined_here, joined_there, one_whole}
use Rattle.shape_bounds.proofs.updates.join_field.Goals as goal
use Rattle.shape_bounds.proofs.updates.join_field.Goals.{then-i-place+in_ok-item+in_ok-push, else-i-place+in_ok-item-2+in_ok-push-2}

pub loop-i-preserved : goal.loop-i-preserved
loop-i-preserved c = elim c.if-i-place.branch [
  | then-i-place+in_ok-item+in_ok-push w ↦
      let more = ap (λ v. v.items) w.joined-is ∙ w.in_ok-push.ensures.items in (
        name_more c.args.fields.now _ _ c.index-fields-i.result c.in_ok-name.name w.in_ok-item.item c.loop-i.i c.loop-i.invariant.0 more (search rules) c.loop-i-test.true c.index-fields-i.is,
        joined_here (λ z. mean z.1) (mean c.args.new.now) c.args.fields.now _ _ (c.in_ok-name.name, w.in_ok-item.item) c.index-fields-i.result c.args.place c.loop-i.i c.loop-i.invariant.1 more
            (search rules) w.if-i-place.true c.loop-i-test.true c.index-fields-i.is,
      )
  | else-i-place+in_ok-item-2+in_ok-push-2 w ↦
      let more = ap (λ v. v.items) w.joined-is ∙ w.in_ok-push-2.ensures.items in (
        name_more c.args.fields.now _ _ c.index-fields-i.result c.in_ok-name.name w.in_ok-item-2.item c.loop-i.i c.loop-i.invariant.0 more (search rules) c.loop-i-test.true c.index-fields-i.is,
        joined_there (λ z. mean z.1) (mean c.args.new.now) c.args.fields.now _ _ (c.in_ok-name.name, w.in_ok-item-2.item) c.index-fields-i.result c.args.place c.loop-i.i c.loop-i.invariant.1 more
            (search rules) w.if-i-place.false c.loop-i-test.true c.index-fields-i.is,
      )
]

pub returns : goal.returns
returns c = record {
  names = ap (map (λ z. z.0)) c.from_vec.ensures ∙ c.loop-i.invariant.0 ∙ names_whole c.args.fields.now c.loop-i.i c.loop-i-test.false;
  shapes = ap (map (λ z. mean z.1)) c.from_vec.ensures ∙ c.loop-i.invariant.1 ∙ one_whole (λ z. mean z.1) (mean c.args.new.now) c.args.fields.now c.args.place c.loop-i.i c.loop-i-test.false;
}
