use Rattle.step_encoder.proofs.Conditions.{all_made, ask_at, none_yet, one_more}
use Rattle.step_encoder.proofs.asking.conditions_of.Goals as goal

pub loop-i-init : goal.loop-i-init
loop-i-init c = none_yet c.args.b.now c.args.env.now c.args.shapes.now c.args.trees.now _ c.requires
    c.new-conditions.ensures.items

pub condition_of-requires : goal.condition_of-requires
condition_of-requires c =
    ask_at c.loop-i.b c.args.env.now c.args.shapes.now c.args.trees.now c.loop-i.i c.index-trees-i.result
    c.loop-i-test.true c.index-trees-i.is c.loop-i.invariant.can

pub loop-i-preserved : goal.loop-i-preserved
loop-i-preserved c =
    one_more c.args.b.now c.loop-i.b c.condition_of.new.b c.args.env.now c.args.shapes.now c.args.trees.now c.loop-i.i
    c.loop-i.conditions.items c.push.new.self.items c.index-trees-i.result
    c.in_ok-part.part c.loop-i.invariant c.loop-i-test.true c.index-trees-i.is c.in_ok-part.ensures.grows
    c.in_ok-part.ensures.condition c.in_ok-push.ensures.items

pub returns-clause-conditions : goal.returns-clause-conditions
returns-clause-conditions c =
    all_made c.args.b.now c.loop-i.b c.args.env.now c.args.shapes.now c.args.trees.now c.loop-i.i
    c.loop-i.conditions.items c.loop-i.invariant c.loop-i-test.false
