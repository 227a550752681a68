use Rattle.kera_reducer.specs.inner.Excepts.{closed}
use Rattle.kera_reducer.proofs.ExceptSteps.{closed_step}
use Rattle.kera_reducer.proofs.excepts.finished.Goals as goal

pub loop-update-preserved : goal.loop-update-preserved
loop-update-preserved c =
    closed_step c.args.place c.loop-update.outer.items c.pop.new.self.items c.in-Some.update c.loop-update.tree
    c.in_ok-tree.tree (closed c.args.place c.args.updates c.args.right) c.loop-update.invariant c.in-Some.ensures.items
    c.in_ok-tree.ensures
