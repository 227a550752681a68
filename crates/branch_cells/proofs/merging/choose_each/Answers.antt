use Rattle.std.proofs.Common.{◌<◌, arith, length, lt_of_lt_of_le}
use Rattle.cell_arena.proofs.Growing.{Grows-trans}
use Rattle.branch_cells.proofs.Eithers.{chosen_more, part_whole, partner_whole, wholes_more}
use Rattle.branch_cells.proofs.merging.choose_each.Goals as goal

pub choose_part-requires : goal.choose_part-requires
choose_part-requires g c =
    let t = c.loop-i-test.true in
    let le = c.requires.1.1 in
    let lt : c.loop-i.i < length c.args.parts.now = omega (arith, t, le) in
    let grows = c.loop-i.invariant.grows in (
      lt_of_lt_of_le c.requires.0 grows.formula.vars,
      (
        part_whole c.args.b.now c.loop-i.b g.names c.args.parts.now c.loop-i.i _ c.requires.1.0 grows lt
            c.index-parts-i.is,
        partner_whole c.args.b.now c.loop-i.b g.names c.args.parts.now c.loop-i.i c.args.half _ c.requires.1.0 grows lt
            (c.partner-other.ensures _),
      ),
    )

pub loop-i-preserved : goal.loop-i-preserved
loop-i-preserved g c =
    let i = c.loop-i.invariant in
    let part = c.in_ok-part.ensures in
    record {
      grows = Grows-trans _ _ _ i.grows part.grows;
      chosen = chosen_more c.args.b.now c.loop-i.b _ g.names c.args.bit c.args.parts.now c.args.half c.loop-i.i
          c.loop-i.out.items _ _ _ c.in_ok-part.part
          c.requires.1.1 c.loop-i-test.true i.grows part.grows c.requires.1.0 i.whole i.chosen c.index-parts-i.is
          c.partner-other.ensures
          part.either c.in_ok-push.ensures.items;
      whole = wholes_more c.loop-i.b _ g.names c.loop-i.out.items _ c.in_ok-part.part part.grows i.whole part.whole
          c.in_ok-push.ensures.items;
    }
