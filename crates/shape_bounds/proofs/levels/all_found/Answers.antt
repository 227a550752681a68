use Rattle.std.proofs.Common.{◌∙◌, ap, map}
use Rattle.kernel_shapes.specs.Codes.{mean}
use Rattle.shape_bounds.proofs.OverPaths.{found_more, found_whole}
use Rattle.shape_bounds.proofs.levels.all_found.Goals as goal

pub loop-i-preserved : goal.loop-i-preserved
loop-i-preserved c =
    found_more c.args.names.now c.loop-i.i c.in_ok-shape.shape c.loop-i.shapes.items c.push.new.self.items c.loop-i.invariant c.loop-i-test.true c.in_ok-shape.ensures c.in_ok-push.ensures.items

pub returns : goal.returns
returns c = ap (map mean) c.from_vec.ensures ∙ found_whole c.args.names.now c.loop-i.shapes.items c.loop-i.i c.loop-i.invariant c.loop-i-test.false
