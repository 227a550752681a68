use Rattle.step_encoder.proofs.MadeParts.{DefaultWay, along_as, constants_go, default_kinds, default_way, defaults_are}
use Rattle.step_encoder.proofs.MadeParts.{whole_as}
use Rattle.step_encoder.proofs.starting.constants_part.Goals as goal

pub along-requires : goal.along-requires
along-requires g c =
    constants_go c.args.b.now c.default_cells.new.b c.args.system.now c.width-width.result c.as_slice.result.now
    c.in_ok-cells.cells.items c.as_slice-2.result.now c.in_ok-way.way
    (record {
      over = c.requires.0;
      wide = record { same = c.width-width.ensures.same; narrow = c.width-width.ensures.narrow };
      grows = c.in_ok-cells.ensures.grows;
      types_are = c.as_slice.ensures;
      cells = c.in_ok-cells.ensures.cells;
      others_are = c.as_slice-2.ensures.value;
      is = c.in_ok-way.ensures;
    }) g.names c.as_slice-3.result.now c.requires.1 c.as_slice-3.ensures

pub returns-clause-part : goal.returns-clause-part
returns-clause-part g c =
    let w : DefaultWay c.args.b.now c.default_cells.new.b c.args.system.now c.width-width.result c.as_slice.result.now
    c.in_ok-cells.cells.items c.as_slice-2.result.now c.in_ok-way.way = record {
      over = c.requires.0;
      wide = record { same = c.width-width.ensures.same; narrow = c.width-width.ensures.narrow };
      grows = c.in_ok-cells.ensures.grows;
      types_are = c.as_slice.ensures;
      cells = c.in_ok-cells.ensures.cells;
      others_are = c.as_slice-2.ensures.value;
      is = c.in_ok-way.ensures;
    } in
    record {
      formed = c.formed.ensures;
      middle = c.default_cells.new.b;
      formed_middle = c.formed-2.ensures;
      others = c.in_ok-cells.cells.items;
      way = c.in_ok-way.way;
      before = c.in_ok-cells.ensures.grows;
      kinds = default_kinds _ _ _ _ _ _ _ _ w;
      defaults = defaults_are _ _ _ _ _ _ _ _ w;
      is = default_way _ _ _ _ _ _ _ _ w;
      along = along_as _ _ _ _ _ _ c.as_slice-3.ensures c.in_ok-part.ensures.along;
      grows = c.in_ok-part.ensures.grows;
      whole = whole_as _ _ _ _ c.requires.1 c.in_ok-part.ensures.whole;
    }
