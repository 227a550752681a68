use Rattle.shape_bounds.proofs.Beginning.{start_is}
use Rattle.shape_bounds.proofs.starting.start_level.Goals as goal

pub returns : goal.returns
returns c =
    start_is c.in_ok-names.names c.args.width c.args.system.now c.as_slice.result.now c.in_ok-constants.constants c.in_ok-start.start c.as_slice.ensures c.in_ok-constants.ensures
    c.in_ok-names.ensures c.in_ok-start.ensures
