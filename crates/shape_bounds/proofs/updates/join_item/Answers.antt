use Rattle.std.proofs.Common.{◌∙◌, ap, map}
use Rattle.kernel_shapes.specs.Codes.{mean}
use Rattle.shape_bounds.proofs.IndexJoins.{joined_here, joined_there, one_whole}
use Rattle.shape_bounds.proofs.updates.join_item.Goals as goal
use Rattle.shape_bounds.proofs.updates.join_item.Goals.{then-i-place+in_ok-item+in_ok-push, else-i-place+in_ok-item-2+in_ok-push-2}

pub loop-i-preserved : goal.loop-i-preserved
loop-i-preserved c = elim c.if-i-place.branch [
  | then-i-place+in_ok-item+in_ok-push w ↦
      joined_here mean (mean c.args.new.now) c.args.items.now _ _ w.in_ok-item.item c.index-items-i.result c.args.place c.loop-i.i c.loop-i.invariant
      (ap (λ v. v.items) w.joined-is ∙ w.in_ok-push.ensures.items) w.in_ok-item.ensures w.if-i-place.true c.loop-i-test.true c.index-items-i.is
  | else-i-place+in_ok-item-2+in_ok-push-2 w ↦
      joined_there mean (mean c.args.new.now) c.args.items.now _ _ w.in_ok-item-2.item c.index-items-i.result c.args.place c.loop-i.i c.loop-i.invariant
      (ap (λ v. v.items) w.joined-is ∙ w.in_ok-push-2.ensures.items) (ap mean w.in_ok-item-2.ensures) w.if-i-place.false c.loop-i-test.true c.index-items-i.is
]

pub returns : goal.returns
returns c = ap (map mean) c.from_vec.ensures ∙ c.loop-i.invariant ∙ one_whole mean (mean c.args.new.now) c.args.items.now c.args.place c.loop-i.i c.loop-i-test.false
