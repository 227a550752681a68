use Rattle.shape_bounds.proofs.Beginning.{constants_are}
use Rattle.shape_bounds.proofs.starting.constants_level.Goals as goal

pub returns : goal.returns
returns c =
    constants_are c.in_ok-names.names c.args.width c.args.system.now c.as_slice.result.now c.as_slice-2.result.now c.in_ok-constants.constants c.as_slice.ensures c.as_slice-2.ensures
    c.in_ok-names.ensures c.in_ok-constants.ensures
