use Rattle.shape_bounds.proofs.BoundTrees.{range_bounds}
use Rattle.shape_bounds.proofs.names.Names.ends.Goals as goal

pub returns-in_ok-whole-in-Range : goal.returns-in_ok-whole-in-Range
returns-in_ok-whole-in-Range c =
    range_bounds c.args.self.now c.shapes_at.new.self c.args.k.now c.args.stacks.now c.in_ok-shapes-in-Range.shapes.items c.as_slice.result.now
    c.in_ok-whole-in-Range.whole c.range_ends.result c.in-Range.is c.in_ok-shapes-in-Range.ensures c.as_slice.ensures.value c.in_ok-whole-in-Range.ensures c.range_ends.ensures
