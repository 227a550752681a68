use Rattle.shape_bounds.specs.inner.Walks.{assigns_in}
use Rattle.shape_bounds.proofs.Walking.{pick_walks}
use Rattle.shape_bounds.proofs.names.Names.pick.Goals as goal

pub returns : goal.returns
returns c =
    pick_walks c.args.self.now c.picked.new.self c.bind.new.self (assigns_in c.args.target) c.args.sets.now c.in_ok-numbers.numbers.items c.as_slice.result.now c.in_ok-shapes.shapes.items c.as_slice-2.result.now
    c.in_ok-shapes.ensures c.in_ok-numbers.ensures c.as_slice.ensures.value c.as_slice-2.ensures.value c.in_ok-bind.ensures
