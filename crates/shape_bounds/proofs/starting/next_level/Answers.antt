use Rattle.shape_bounds.proofs.Beginning.{next_is}
use Rattle.shape_bounds.proofs.starting.next_level.Goals as goal

pub returns : goal.returns
returns c =
    next_is c.in_ok-names.names c.args.width c.args.system.now c.as_slice.result.now c.args.shapes.now c.as_slice-2.result.now c.in_ok-level.level c.as_slice.ensures c.as_slice-2.ensures
    c.in_ok-names.ensures c.in_ok-level.ensures
