use Rattle.std.proofs.Common.{◌∙◌}
use Rattle.shape_bounds.specs.inner.Walks.{assigns_in}
use Rattle.shape_bounds.proofs.Walking.{among_walks}
use Rattle.shape_bounds.proofs.names.Names.step.Goals as goal

pub returns-in_ok-assign-in-Among : goal.returns-in_ok-assign-in-Among
returns-in_ok-assign-in-Among c =
    among_walks c.args.self.now c.size-in-Among.new.self c.assign-in-Among.new.self (assigns_in c.args.target) c.in-Among.i c.in-Among.set c.args.step.now c.in_ok-shape-in-Among.shape
    c.in_ok-member-in-Among.member c.in-Among.is c.in_ok-shape-in-Among.ensures (c.in_ok-member-in-Among.ensures ∙ c.inside.ensures) c.in_ok-assign-in-Among.ensures
