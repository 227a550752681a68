use Rattle.std.proofs.Common.{◌<◌, false, length, arith}
use Rattle.sat_formula.specs.declared.lit.Lit.{Lit}
use Rattle.cell_arena.specs.declared.kinds.CellId.{CellId}
use Rattle.cell_arena.proofs.Growing.{Grows-trans}
use Rattle.cell_merge.proofs.Layering.{partner-named, partner-type, each-more}
use Rattle.cell_merge.proofs.picking.choose_each.Goals as goal

first : Lit × CellId
first = (record { var = 0; neg = false }, record { index = 0 })

pub choose_edge-requires-clause-y_below : goal.choose_edge-requires-clause-y_below
choose_edge-requires-clause-y_below c =
    let lt : c.loop-i.i < length c.args.edges.now = omega arith in
    partner-named c.args.b.now c.args.edges.now c.loop-i.i c.args.half c.loop-i.b.formula.vars first _ c.requires.edges lt (c.partner-y.ensures first) c.loop-i.invariant.grows.formula.vars

pub choose_edge-requires-clause-types : goal.choose_edge-requires-clause-types
choose_edge-requires-clause-types c =
    let lt : c.loop-i.i < length c.args.edges.now = omega arith in
    partner-type c.args.b.now c.loop-i.b c.args.edges.now c.loop-i.i c.args.half _ _ c.requires.edges lt (c.partner-y.ensures _) c.loop-i.invariant.grows

pub loop-i-preserved : goal.loop-i-preserved
loop-i-preserved c =
    let i = c.loop-i.invariant in
    let lt : c.loop-i.i < length c.args.edges.now = omega arith in
    record {
      grows = Grows-trans _ _ _ i.grows c.in_ok-edge.ensures.grows;
      each = each-more _ c.loop-i.b _ _ c.args.edges.now c.args.half c.loop-i.i _ _ _ _ _ lt (c.partner-y.ensures _) c.requires.edges i.grows c.in_ok-edge.ensures.grows i.each c.in_ok-edge.ensures.chosen c.in_ok-push.ensures.items;
    }
