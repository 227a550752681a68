use Rattle.step_encoder.proofs.AskedTrees.{asks_as, conditions_as}
use Rattle.step_encoder.proofs.Conditions.{below_as}
use Rattle.step_encoder.proofs.Judged.{judged_as}
use Rattle.step_encoder.proofs.asking.judge.Goals as goal

pub conditions_of-requires : goal.conditions_of-requires
conditions_of-requires c =
    asks_as c.args.b.now c.args.system.now c.args.shapes.now c.args.cells.now c.as_slice.result.now c.in_ok-env.env
    c.as_slice-2.result.now c.requires.can c.in_ok-env.ensures c.as_slice.ensures
    c.as_slice-2.ensures

pub judged_in-requires-clause-ends : goal.judged_in-requires-clause-ends
judged_in-requires-clause-ends c =
    below_as c.conditions_of.new.b c.in_ok-env.env c.args.shapes.now c.as_slice-2.result.now
    c.in_ok-conditions.conditions.items c.as_slice-3.result.now c.as_slice-3.ensures.value
    c.in_ok-conditions.ensures.conditions

pub returns-clause-asked : goal.returns-clause-asked
returns-clause-asked c = record {
  conditions = c.in_ok-conditions.conditions.items;
  are = conditions_as c.conditions_of.new.b c.judged_in.new.b c.args.system.now c.args.shapes.now c.args.cells.now
      c.as_slice.result.now c.in_ok-env.env c.as_slice-2.result.now
      c.in_ok-conditions.conditions.items c.judged_in.ensures.grows c.in_ok-env.ensures c.as_slice.ensures
      c.as_slice-2.ensures c.in_ok-conditions.ensures.conditions;
  literals = judged_as c.judged_in.new.b.formula c.as_slice-3.result.now c.in_ok-conditions.conditions.items
      c.args.run c.in_ok-literals.literals c.as_slice-3.ensures.value
      c.in_ok-literals.ensures.judged;
}
