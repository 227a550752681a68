use Rattle.std.proofs.Common.{reverse}
use Rattle.kera_reducer.proofs.ExceptSteps.{split_start, split_step}
use Rattle.kera_reducer.proofs.excepts.split.Goals as goal

pub loop-count-init : goal.loop-count-init
loop-count-init c =
    split_start c.args.kids.items c.in_ok-functions.functions.items c.reverse.new.self.items c.new-indexes.result.items
    c.new-rights.result.items (reverse c.taken.new.stack.items) 1 c.reverse.ensures.items c.new-indexes.ensures.items
    c.new-rights.ensures.items c.in_ok-functions.ensures

pub loop-count-preserved : goal.loop-count-preserved
loop-count-preserved c =
    split_step c.args.counts.now c.loop-count.count-index c.args.kids.items c.in_ok-functions.functions.items
    c.loop-count.indexes.items c.loop-count.rights.items (reverse c.loop-count.stack.items)
    (reverse c.taken-in-loop-count.new.stack.items) (reverse c.taken-in-loop-count-2.new.stack.items)
    c.in_ok-path.path.items c.in_ok-right.right.items c.append.new.self.items c.append-in-loop-count.new.self.items
    c.loop-count-test.true c.loop-count.invariant c.in_ok-path.ensures c.in_ok-right.ensures
    c.in_ok-append.ensures.items c.in_ok-append-2.ensures.items
