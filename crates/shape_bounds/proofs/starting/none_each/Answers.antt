use Rattle.shape_bounds.proofs.Beginning.{nothing_next, nothing_whole}
use Rattle.shape_bounds.proofs.starting.none_each.Goals as goal

pub loop-preserved : goal.loop-preserved
loop-preserved c = nothing_next c.args.fixed.now c.loop.counter c.loop.names.items c.push.new.self.items c.loop.invariant c.loop-test.true c.in_ok-push.ensures.items

pub returns : goal.returns
returns c = nothing_whole c.args.fixed.now c.loop.counter c.loop.names.items c.loop.invariant c.loop-test.false
