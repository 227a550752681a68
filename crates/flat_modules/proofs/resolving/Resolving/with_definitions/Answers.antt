use Rattle.std.proofs.Common.{◌+◌}
use Rattle.std.proofs.lemmas.List.{take_rest}
use Rattle.flat_modules.proofs.LearningLemmas.{with_step}
use Rattle.flat_modules.proofs.resolving.Resolving.with_definitions.Goals as goal

pub loop-i-preserved : goal.loop-i-preserved
loop-i-preserved c =
    with_step c.args.prefix.now c.args.place c.args.inside.now c.args.with.now c.loop-i.i c.index-with-i.result c.in_ok-tree.tree c.loop-i.items.items c.push.new.self.items
    c.in_ok-item.item c.loop-i-test.true c.index-with-i.is (take_rest c.args.with.now (c.loop-i.i + 1)) c.in_ok-item.ensures c.in_ok-push.ensures.items c.loop-i.invariant c.in_ok-tree.ensures
