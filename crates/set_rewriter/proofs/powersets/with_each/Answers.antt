use Rattle.cell_arena.proofs.Growing.{Grows-trans}
use Rattle.set_rewriter.proofs.Powers.{one-set, each-more}
use Rattle.set_rewriter.proofs.powersets.with_each.Goals as goal

pub with_edge-requires : goal.with_edge-requires
with_edge-requires c = one-set _ _ c.args.cells.now c.loop-cell.cell-index _ c.args.edge c.requires c.loop-cell-test.true c.loop-cell.invariant.grows

pub loop-cell-preserved : goal.loop-cell-preserved
loop-cell-preserved c =
    let i = c.loop-cell.invariant in
    let r = c.requires in
    record {
      grows = Grows-trans _ _ _ i.grows c.in_ok-id.ensures.grows;
      each = each-more _ c.loop-cell.b _ c.args.edge c.args.cells.now c.loop-cell.cell-index _ _ _ _ r.sort c.loop-cell-test.true r.sets r.cell i.grows c.in_ok-id.ensures.grows i.each c.in_ok-id.ensures.with c.in_ok-push.ensures.items;
    }
