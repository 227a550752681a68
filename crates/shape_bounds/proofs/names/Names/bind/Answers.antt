use Rattle.std.proofs.Common.{refl}
use Rattle.shape_bounds.proofs.Binding.{bound_more}
use Rattle.shape_bounds.proofs.names.Names.bind.Goals as goal

pub loop-i-preserved : goal.loop-i-preserved
loop-i-preserved c =
    bound_more c.args.self.now c.loop-i.self _ c.args.numbers.now c.args.shapes.now c.loop-i.i c.index-shapes-i.result c.in_ok-shape.shape c.loop-i.invariant
    c.loop-i-test.true c.if-numbers-shapes.false c.index-shapes-i.is c.in_ok-shape.ensures refl refl refl refl c.in_ok-push.ensures.items
