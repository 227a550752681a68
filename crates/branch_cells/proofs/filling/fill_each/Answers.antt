use Rattle.cell_arena.proofs.Growing.{Grows-trans}
use Rattle.branch_cells.proofs.Filled.{names_more, sorted_here}
use Rattle.branch_cells.proofs.filling.fill_each.Goals as goal

pub fill_name-requires : goal.fill_name-requires
fill_name-requires c =
    sorted_here c.args.b.now c.loop-i.b c.args.items.now c.args.others.now c.loop-i.i _ _ c.requires.count
    c.requires.sorts
    c.loop-i-test.true c.loop-i.invariant.grows

pub loop-i-preserved : goal.loop-i-preserved
loop-i-preserved c =
    let i = c.loop-i.invariant in
    let id = c.in_ok-id.ensures in
    record {
      grows = Grows-trans _ _ _ i.grows id.grows;
      filled = names_more c.args.b.now c.loop-i.b _ c.args.sure c.args.items.now c.args.others.now c.loop-i.i
          c.loop-i.ids.items _ c.in_ok-id.id
          _ _ c.requires.count c.requires.sorts c.loop-i-test.true i.grows id.grows i.filled id.filled
          c.in_ok-push.ensures.items;
    }
