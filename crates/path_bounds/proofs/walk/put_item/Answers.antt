use Rattle.std.proofs.Common.{length, ◌≤◌}
use Rattle.kernel_shapes.specs.Codes.{mean}
use Rattle.shape_bounds.specs.Extents.{given_shape}
use Rattle.path_bounds.proofs.Passing.{put_past, set_given}
use Rattle.path_bounds.proofs.walk.put_item.Goals as goal

pub returns-then-i-as_slice : goal.returns-then-i-as_slice
returns-then-i-as_slice c = set_given c.args.shapes.now.items c.args.i c.args.shape

pub returns-else-i-as_slice : goal.returns-else-i-as_slice
returns-else-i-as_slice c =
    let past : length c.args.shapes.now.items ≤ c.args.i = rw c.as_slice.ensures.value at c.if-i-as_slice.false in
    put_past c.args.shapes.now.items c.args.i (given_shape (mean c.args.shape)) past
