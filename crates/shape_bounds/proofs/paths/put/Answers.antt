use Rattle.std.proofs.Common.{length, ◌≤◌}
use Rattle.kernel_shapes.specs.Codes.{mean}
use Rattle.shape_bounds.proofs.Walking.{put_past, set_some}
use Rattle.shape_bounds.proofs.paths.put.Goals as goal

pub returns-then-i-as_slice : goal.returns-then-i-as_slice
returns-then-i-as_slice c = set_some c.args.names.now.items c.args.i c.args.shape

pub returns-else-i-as_slice : goal.returns-else-i-as_slice
returns-else-i-as_slice c =
    let past : length c.args.names.now.items ≤ c.args.i = rw c.as_slice.ensures.value at c.if-i-as_slice.false in
    put_past c.args.names.now.items c.args.i (mean c.args.shape) past
