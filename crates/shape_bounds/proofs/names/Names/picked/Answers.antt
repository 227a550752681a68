use Rattle.std.proofs.Common.{◌∙◌}
use Rattle.shape_bounds.proofs.Walking.{picked_next}
use Rattle.shape_bounds.proofs.names.Names.picked.Goals as goal

pub loop-i-preserved : goal.loop-i-preserved
loop-i-preserved c =
    picked_next c.args.self.now c.loop-i.self c.size.new.self c.args.sets.now c.loop-i.i c.index-sets-i.result c.loop-i.shapes.items c.push.new.self.items c.in_ok-shape.shape c.in_ok-member.member
    c.loop-i.invariant c.loop-i-test.true c.index-sets-i.is c.in_ok-shape.ensures (c.in_ok-member.ensures ∙ c.inside.ensures) c.in_ok-push.ensures.items
