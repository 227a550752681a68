use Rattle.kera_reducer.proofs.ExceptSteps.{behind_step}
use Rattle.kera_reducer.proofs.excepts.behind.Goals as goal

pub loop-ty-preserved : goal.loop-ty-preserved
loop-ty-preserved c =
    behind_step c.args.place c.args.pairs c.args.rests.now c.loop-ty.ty-index c.ty-item.result c.loop-ty.tree
    c.in_ok-tree.tree c.loop-ty-test.true c.ty-item.is c.loop-ty.invariant c.in_ok-tree.ensures
