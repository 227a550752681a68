use Rattle.step_encoder.proofs.MadeParts.{can_judge_step, step_run}
use Rattle.step_encoder.proofs.stepping.next_level.Goals as goal

pub level_of-requires-clause-can : goal.level_of-requires-clause-can
level_of-requires-clause-can c =
    can_judge_step c.args.b.now c.step_part.new.b c.args.system.now c.args.from.now c.args.shapes.now c.args.after.now
    c.in_ok-whole.whole c.requires.can c.in_ok-whole.ensures.part
    c.requires.after

pub level_of-requires-clause-run : goal.level_of-requires-clause-run
level_of-requires-clause-run c = step_run c.args.b.now c.step_part.new.b c.args.system.now c.args.from.now
    c.args.shapes.now c.in_ok-whole.whole c.in_ok-whole.ensures.part

pub returns-clause-next : goal.returns-clause-next
returns-clause-next c = record {
  end = c.step_part.new.b;
  formed = c.formed.ensures;
  whole = c.in_ok-whole.whole;
  part = c.in_ok-whole.ensures.part;
  grows = c.in_ok-level.ensures.grows;
  level = c.in_ok-level.ensures.level;
}
