use Rattle.shape_bounds.specs.inner.Walks.{assigns_in}
use Rattle.shape_bounds.proofs.Walking.{path_next}
use Rattle.shape_bounds.proofs.names.Names.path.Goals as goal

pub loop-i-preserved : goal.loop-i-preserved
loop-i-preserved c =
    path_next c.args.self.now c.loop-i.self c.step.new.self (assigns_in c.args.target) c.args.steps.now c.loop-i.i c.index-steps-i.result c.loop-i.invariant c.loop-i-test.true c.index-steps-i.is c.in_ok-step.ensures
