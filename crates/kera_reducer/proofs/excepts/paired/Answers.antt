use Rattle.kera_reducer.specs.inner.Excepts.{paired}
use Rattle.kera_reducer.proofs.ExceptSteps.{paired_start, paired_step}
use Rattle.kera_reducer.proofs.excepts.paired.Goals as goal

pub loop-index-init : goal.loop-index-init
loop-index-init c =
    paired_start c.args.place c.args.function c.args.indexes.items c.pop.new.self.items c.in-Some.last
    c.in-Some.ensures.items

pub loop-index-preserved : goal.loop-index-preserved
loop-index-preserved c =
    paired_step c.args.place c.args.function c.loop-index.before.items c.pop-in-loop-index.new.self.items
    c.in-Some-pop.index c.loop-index.behind c.in_ok-behind.behind (paired c.args.place c.args.function c.args.indexes.items)
    c.loop-index.invariant c.in-Some-pop.ensures.items c.in_ok-behind.ensures
