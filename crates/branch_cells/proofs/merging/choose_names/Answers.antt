use Rattle.std.proofs.Common.{arith}
use Rattle.cell_arena.proofs.Growing.{Grows-trans}
use Rattle.branch_cells.proofs.Eithers.{cells_more, one_type, same_counts}
use Rattle.branch_cells.proofs.merging.choose_names.Goals as goal

pub bounds-ys-i : goal.bounds-ys-i
bounds-ys-i g c =
    let n = same_counts c.args.b.now g.names c.args.xs.now c.args.ys.now c.requires.1.0 c.requires.1.1 in
    let lt = c.loop-i-test.true in
    omega (arith, n, lt)

pub choose_name-requires-clause-types : goal.choose_name-requires-clause-types
choose_name-requires-clause-types g c =
    one_type c.args.b.now g.names c.args.xs.now c.args.ys.now c.requires.1.0 c.requires.1.1 c.loop-i.b c.loop-i.i _
    c.loop-i.invariant.grows c.loop-i-test.true

pub loop-i-preserved : goal.loop-i-preserved
loop-i-preserved g c =
    let i = c.loop-i.invariant in
    let id = c.in_ok-id.ensures in
    record {
      grows = Grows-trans _ _ _ i.grows id.grows;
      chosen = cells_more c.args.b.now g.names c.args.xs.now c.args.ys.now c.requires.1.0 c.requires.1.1 c.loop-i.b _
          c.args.bit c.loop-i.i
          c.loop-i.ids.items _ c.in_ok-id.id _ _ c.loop-i-test.true i.grows id.grows i.chosen id.chosen
          c.in_ok-push.ensures.items;
    }
