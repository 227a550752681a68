use Rattle.shape_bounds.proofs.OverPaths.{named_more, named_whole}
use Rattle.shape_bounds.proofs.levels.copy_named.Goals as goal

pub loop-i-preserved : goal.loop-i-preserved
loop-i-preserved c =
    named_more c.args.names.now c.loop-i.i c.index-names-i.result c.in_ok-copy.copy c.loop-i.copies.items c.push.new.self.items c.loop-i.invariant c.loop-i-test.true c.index-names-i.is
    c.in_ok-copy.ensures c.in_ok-push.ensures.items

pub returns : goal.returns
returns c = named_whole c.args.names.now c.loop-i.copies.items c.loop-i.i c.loop-i.invariant c.loop-i-test.false
