use Rattle.path_bounds.proofs.Passing.{all_sets, more_sets}
use Rattle.path_bounds.proofs.walk.Walk.sets.Goals as goal

pub loop-i-preserved : goal.loop-i-preserved
loop-i-preserved c =
    more_sets c.args.self.now c.args.sets.now c.loop-i.i c.index-sets-i.result c.loop-i.trees.items c.push.new.self.items c.in_ok-tree.tree c.loop-i.invariant c.loop-i-test.true
    c.index-sets-i.is c.in_ok-tree.ensures c.in_ok-push.ensures.items

pub returns : goal.returns
returns c = all_sets c.args.self.now c.args.sets.now c.loop-i.i c.loop-i.trees.items c.loop-i.invariant c.loop-i-test.false
