use Rattle.shape_bounds.proofs.Stacked.{shapes_next, shapes_none}
use Rattle.shape_bounds.proofs.names.Names.shapes_at.Goals as goal

pub loop-i-init : goal.loop-i-init
loop-i-init c = shapes_none c.args.self.now c.args.k.now c.args.stacks.now c.new-shapes.result.items c.new-shapes.ensures.items

pub loop-i-preserved : goal.loop-i-preserved
loop-i-preserved c =
    shapes_next c.args.self.now c.loop-i.self c.shape_at.new.self c.args.k.now c.args.stacks.now c.loop-i.i c.index-stacks-i.result c.loop-i.shapes.items
    c.push.new.self.items c.in_ok-shape.shape c.loop-i.invariant c.loop-i-test.true c.index-stacks-i.is c.in_ok-shape.ensures c.in_ok-push.ensures.items
