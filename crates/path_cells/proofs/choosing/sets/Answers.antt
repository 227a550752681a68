use Rattle.cell_arena.proofs.Growing.{Grows-trans}
use Rattle.path_cells.proofs.Chosen.{sets_can, sets_turn, sets_whole}
use Rattle.path_cells.proofs.choosing.sets.Goals as goal

pub rewrite-requires : goal.rewrite-requires
rewrite-requires c =
    sets_can c.args.b.now c.loop-i.b c.args.env.now c.args.ps.now c.loop-i.i c.index-ps-i.result c.loop-i-test.true c.index-ps-i.is c.requires
    c.loop-i.invariant.grows

pub loop-i-preserved : goal.loop-i-preserved
loop-i-preserved c =
    let i = c.loop-i.invariant in
    let o = c.in_ok-x.ensures in
    rw c.in_ok-push.ensures.items
    (record {
      grows = Grows-trans c.args.b.now c.loop-i.b c.rewrite.new.b i.grows o.grows;
      trees = sets_turn c.args.b.now c.loop-i.b c.args.env.now c.args.ps.now c.loop-i.i c.index-ps-i.result c.loop-i-test.true c.index-ps-i.is
          c.requires i.grows c.rewrite.new.b c.loop-i.made.items c.in_ok-x.x o.grows i.trees o.sort o.rewrites;
    })

pub returns-clause-trees : goal.returns-clause-trees
returns-clause-trees c =
    sets_whole c.loop-i.b c.args.env.now c.args.ps.now c.loop-i.i c.loop-i.made.items c.loop-i-test.false c.loop-i.invariant.trees
