use Rattle.path_bounds.proofs.Passing.{all_passed, more_passed}
use Rattle.path_bounds.proofs.bounding.bounded_each.Goals as goal

pub loop-i-preserved : goal.loop-i-preserved
loop-i-preserved c =
    more_passed c.args.walk.now c.loop-i.walk c.pass.new.self c.args.steps.now c.loop-i.i c.index-steps-i.result c.loop-i.bounded.items c.push.new.self.items c.in_ok-changed.changed
    c.loop-i.invariant c.loop-i-test.true c.index-steps-i.is c.in_ok-changed.ensures c.in_ok-pass.ensures c.in_ok-push.ensures.items

pub returns : goal.returns
returns c = all_passed c.args.walk.now c.loop-i.walk c.args.steps.now c.loop-i.i c.loop-i.bounded.items c.loop-i.invariant c.loop-i-test.false
