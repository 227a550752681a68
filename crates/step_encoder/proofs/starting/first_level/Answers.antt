use Rattle.std.proofs.Common.{refl}
use Rattle.cell_arena.proofs.Growing.{Grows-trans}
use Rattle.step_encoder.proofs.MadeParts.{can_go_on, can_judge_start, start_run}
use Rattle.step_encoder.proofs.starting.first_level.Goals as goal

pub start_part-requires : goal.start_part-requires
start_part-requires c = (
  can_go_on c.args.b.now c.constants_part.new.b c.args.system.now c.in_ok-constants.constants c.in_ok-way.way
      c.requires.can c.in_ok-constants.ensures.part c.in_ok-way.ensures,
  refl,
)

pub returns-in_err-level-clause-grows : goal.returns-in_err-level-clause-grows
returns-in_err-level-clause-grows c =
    Grows-trans _ _ _ c.in_ok-constants.ensures.grows (Grows-trans _ _ _ c.in_ok-whole.ensures.grows
    c.level_of.ensures.grows)

pub returns-clause-grows : goal.returns-clause-grows
returns-clause-grows c =
    Grows-trans _ _ _ c.in_ok-constants.ensures.grows (Grows-trans _ _ _ c.in_ok-whole.ensures.grows
    c.in_ok-level.ensures.grows)

pub level_of-requires-clause-can : goal.level_of-requires-clause-can
level_of-requires-clause-can c =
    can_judge_start c.args.b.now c.constants_part.new.b c.start_part.new.b c.args.system.now
    c.in_ok-constants.constants c.in_ok-way.way c.args.shapes.now c.in_ok-whole.whole c.requires.can
    c.in_ok-constants.ensures.part c.in_ok-whole.ensures.part c.requires.shapes

pub level_of-requires-clause-run : goal.level_of-requires-clause-run
level_of-requires-clause-run c =
    start_run c.constants_part.new.b c.start_part.new.b c.args.system.now c.in_ok-constants.constants c.in_ok-way.way
    c.in_ok-whole.whole c.in_ok-whole.ensures.part

pub returns-clause-first : goal.returns-clause-first
returns-clause-first c = record {
  middle = c.constants_part.new.b;
  constants = c.in_ok-constants.constants;
  first = c.in_ok-constants.ensures.part;
  way = c.in_ok-way.way;
  is = c.in_ok-way.ensures;
  end = c.start_part.new.b;
  formed = c.formed.ensures;
  whole = c.in_ok-whole.whole;
  rest = c.in_ok-whole.ensures.part;
  grows = c.in_ok-level.ensures.grows;
  level = c.in_ok-level.ensures.level;
}
