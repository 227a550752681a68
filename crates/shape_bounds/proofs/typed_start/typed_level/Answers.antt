use Rattle.std.proofs.Common.{refl}
use Rattle.shape_bounds.proofs.TypedLevel.{typed_is}
use Rattle.shape_bounds.proofs.typed_start.typed_level.Goals as goal

pub returns : goal.returns
returns c =
    typed_is c.args.bounds c.args.width c.args.system.now c.in_ok-constants.constants c.in_ok-names.names c.as_slice.result.now c.args.system.now.ker.fixed c.args.system.now.ker.names c.in_ok-shapes.shapes
    c.in_ok-constants.ensures c.in_ok-names.ensures c.as_slice.ensures refl refl c.in_ok-shapes.ensures
