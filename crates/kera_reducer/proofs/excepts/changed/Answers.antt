use Rattle.std.proofs.Common.{suc, reverse}
use Rattle.kera_reducer.proofs.ExceptSteps.{changed_start, changed_step, changed_end}
use Rattle.kera_reducer.proofs.excepts.changed.Goals as goal

pub loop-count-init : goal.loop-count-init
loop-count-init c =
    changed_start c.args.made.now.place c.args.made.now.ty.now (suc (suc c.args.made.now.depth)) c.args.operands.function
    c.args.counts.now c.args.operands.indexes.items c.args.rights.items c.reverse.new.self.items
    c.reverse-2.new.self.items c.reverse.ensures.items c.reverse-2.ensures.items

pub loop-count-preserved : goal.loop-count-preserved
loop-count-preserved c =
    changed_step c.args.made.now.place c.args.made.now.ty.now (suc (suc c.args.made.now.depth)) c.args.counts.now
    c.loop-count.count-index c.loop-count.tree c.in_ok-tree.tree (reverse c.loop-count.indexes.items)
    c.in_ok-path.path.items (reverse c.taken.new.stack.items) c.loop-count.rights.items c.pop.new.self.items
    c.in-Some.right _ c.loop-count-test.true c.in_ok-path.ensures c.in-Some.ensures.items c.in_ok-tree.ensures
    c.loop-count.invariant

pub returns : goal.returns
returns c =
    changed_end c.args.made.now.place c.args.made.now.ty.now (suc (suc c.args.made.now.depth)) c.args.counts.now
    c.loop-count.count-index c.loop-count.tree (reverse c.loop-count.indexes.items)
    (reverse c.loop-count.rights.items) _ c.loop-count-test.false c.loop-count.invariant
