use Rattle.std.proofs.Common.{refl}
use Rattle.step_encoder.proofs.MadeParts.{StepWay, along_as, step_goes, the_step_way, whole_as}
use Rattle.step_encoder.proofs.stepping.step_part.Goals as goal

pub along-requires : goal.along-requires
along-requires g c =
    step_goes c.args.b.now c.args.system.now c.args.from.now c.args.shapes.now c.width-width.result
    c.as_slice.result.now c.as_slice-2.result.now c.in_ok-way.way
    (record {
      can = c.requires.0;
      wide = record { same = c.width-width.ensures.same; narrow = c.width-width.ensures.narrow };
      cells_are = c.as_slice.ensures;
      shapes_are = c.as_slice-2.ensures;
      is = c.in_ok-way.ensures;
    }) g.names c.as_slice-3.result.now c.requires.1 c.as_slice-3.ensures

pub returns-clause-part : goal.returns-clause-part
returns-clause-part g c =
    let w : StepWay c.args.b.now c.args.system.now c.args.from.now c.args.shapes.now c.width-width.result
    c.as_slice.result.now c.as_slice-2.result.now c.in_ok-way.way = record {
      can = c.requires.0;
      wide = record { same = c.width-width.ensures.same; narrow = c.width-width.ensures.narrow };
      cells_are = c.as_slice.ensures;
      shapes_are = c.as_slice-2.ensures;
      is = c.in_ok-way.ensures;
    } in
    record {
      formed = c.formed.ensures;
      way = c.in_ok-way.way;
      is = the_step_way _ _ _ _ _ _ _ _ w;
      to = c.along.new.b;
      formed_to = c.formed-2.ensures;
      part = c.in_ok-part.part;
      along = along_as _ _ _ _ _ _ c.as_slice-3.ensures c.in_ok-part.ensures.along;
      grows = c.in_ok-part.ensures.grows;
      whole = whole_as _ _ _ _ c.requires.1 c.in_ok-part.ensures.whole;
      after = c.in_ok-ends.ensures.grows;
      ends = c.in_ok-ends.ensures.ends;
      next = refl;
    }
