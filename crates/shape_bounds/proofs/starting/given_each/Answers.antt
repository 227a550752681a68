use Rattle.shape_bounds.proofs.Beginning.{given_more, given_whole}
use Rattle.shape_bounds.proofs.starting.given_each.Goals as goal

pub loop-i-preserved : goal.loop-i-preserved
loop-i-preserved c =
    given_more c.args.shapes.now c.loop-i.i c.index-shapes-i.result c.in_ok-name.name c.loop-i.names.items c.push.new.self.items c.loop-i.invariant c.loop-i-test.true c.index-shapes-i.is
    c.in_ok-name.ensures c.in_ok-push.ensures.items

pub returns : goal.returns
returns c = given_whole c.args.shapes.now c.loop-i.i c.loop-i.names.items c.loop-i.invariant c.loop-i-test.false
