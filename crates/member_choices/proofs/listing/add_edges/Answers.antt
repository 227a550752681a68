use Rattle.sat_formula.specs.declared.lit.Lit.{Lit}
use Rattle.cell_arena.specs.declared.kinds.CellId.{CellId}
use Rattle.std.proofs.Common.{false}
use Rattle.sat_formula.proofs.Extension.{Grows-trans}
use Rattle.member_choices.proofs.MoreChoices.{edges-more}
use Rattle.member_choices.proofs.listing.add_edges.Goals as goal

abbrev none-edge : Lit × CellId
none-edge = (record { var = 0; neg = false }, record { index = 0 })

pub loop-edge-preserved : goal.loop-edge-preserved
loop-edge-preserved c =
    let i = c.loop-edge.invariant in
    record {
      grows = Grows-trans _ _ _ i.grows c.in_ok-add_front.ensures.grows;
      adds = edges-more _ _ c.args.edges.now c.loop-edge.edge-index none-edge _ _ _ c.loop-edge-test.true
          c.in_ok-add_front.ensures.grows i.adds c.in_ok-add_front.ensures.adds;
    }
