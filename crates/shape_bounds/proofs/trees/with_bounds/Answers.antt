use Rattle.shape_bounds.specs.Extents.{extent_of}
use Rattle.shape_bounds.proofs.HasBounds.{each_has_bounds}
use Rattle.shape_bounds.proofs.trees.with_bounds.Goals as goal

pub returns : goal.returns
returns c =
    each_has_bounds c.args.width c.args.e.now (extent_of c.args.now.now c.args.next.now c.args.bound.now) c.in_ok-tree.tree
    c.in_ok-tree.ensures
