use Rattle.shape_bounds.proofs.ExtentsUnder.{sets_under}
use Rattle.shape_bounds.proofs.names.Names.under_sets.Goals as goal

pub returns : goal.returns
returns c =
    sets_under c.args.self.now c.enter.new.self c.sizes.new.self c.extended.new.self c.args.k.now c.args.stack.now c.in_ok-extended.extended c.as_slice.result.now
    c.as_slice-numbers.result.now c.in_ok-sets.sets.items c.as_slice-2.result.now c.in_ok-members.members.items c.as_slice-3.result.now c.in_ok-vec.field-0.items
    c.requires.kind c.as_slice.ensures c.as_slice-numbers.ensures c.in_ok-enter.ensures.stays c.in_ok-enter.ensures.bound c.in_ok-sets.ensures
    c.as_slice-2.ensures.value c.in_ok-members.ensures c.as_slice-3.ensures.value c.in_ok-extended.ensures c.in_ok-vec.ensures.items
