use Rattle.std.proofs.Common.{refl}
use Rattle.shape_bounds.proofs.Beginning.{first_is}
use Rattle.shape_bounds.proofs.starting.first_at.Goals as goal

pub returns : goal.returns
returns c =
    first_is c.in_ok-names.names
    (record { alloc = c.in_ok-names.names.alloc; width = c.in_ok-names.names.width; state = c.in_ok-names.names.state; next = c.in_ok-names.names.next; bound = c.in_ok-names.names.bound; first = c.args.level.now.first })
    c.sizes.new.self c.args.width c.args.system.now c.as_slice.result.now c.as_slice-invariants.result.now c.in_ok-sizes.field-0.items c.args.level.now c.as_slice.ensures c.as_slice-invariants.ensures
    c.in_ok-names.ensures refl refl refl refl refl c.in_ok-sizes.ensures
