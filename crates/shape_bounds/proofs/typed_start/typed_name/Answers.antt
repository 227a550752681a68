use Rattle.std.proofs.Common.{ap}
use Rattle.kernel_shapes.specs.Codes.{mean}
use Rattle.shape_bounds.proofs.TypedLevel.{fixed_name, free_name}
use Rattle.shape_bounds.proofs.typed_start.typed_name.Goals as goal

pub returns-in_ok-copy : goal.returns-in_ok-copy
returns-in_ok-copy c = fixed_name c.args.bounds c.args.fixed c.args.constant.now c.args.t.now c.in_ok-copy.copy c.if-fixed.true (ap mean c.in_ok-copy.ensures)

pub returns-in_ok-shape : goal.returns-in_ok-shape
returns-in_ok-shape c = free_name c.args.bounds c.args.fixed c.args.constant.now c.args.t.now c.in_ok-shape.shape c.if-fixed.false c.in_ok-shape.ensures
