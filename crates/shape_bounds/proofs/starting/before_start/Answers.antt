use Rattle.std.proofs.Common.{refl}
use Rattle.shape_bounds.proofs.Beginning.{before_is}
use Rattle.shape_bounds.proofs.starting.before_start.Goals as goal

pub returns : goal.returns
returns c =
    before_is c.in_ok-names.names
    (record { alloc = c.in_ok-names.names.alloc; width = c.in_ok-names.names.width; state = c.in_ok-names.names.state; next = c.in_ok-names.names.next; bound = c.in_ok-names.names.bound; first = c.args.constants.now.first })
    c.size.new.self c.args.width c.args.system.now c.as_slice-fixed.result.now c.as_slice.result.now c.in_ok-size.field-0 c.args.constants.now c.as_slice-fixed.ensures c.as_slice.ensures
    c.in_ok-names.ensures refl refl refl refl refl c.in_ok-size.ensures
