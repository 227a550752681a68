use Rattle.path_bounds.proofs.Passing.{all_members, more_members}
use Rattle.path_bounds.proofs.walk.Walk.members.Goals as goal

pub loop-i-preserved : goal.loop-i-preserved
loop-i-preserved c =
    more_members c.args.self.now c.args.sets.now c.loop-i.i c.index-sets-i.result c.loop-i.members.items c.push.new.self.items c.in_ok-member.member c.loop-i.invariant c.loop-i-test.true
    c.index-sets-i.is c.in_ok-member.ensures c.in_ok-push.ensures.items

pub returns : goal.returns
returns c = all_members c.args.self.now c.args.sets.now c.loop-i.i c.loop-i.members.items c.loop-i.invariant c.loop-i-test.false
