use Rattle.cell_arena.proofs.Growing.{Grows-trans}
use Rattle.branch_cells.proofs.Eithers.{wholes_more}
use Rattle.branch_cells.proofs.Followed.{parts_all, parts_step, path_here, ready_later}
use Rattle.branch_cells.proofs.following.follow_each.Goals as goal

pub follow-requires : goal.follow-requires
follow-requires g c =
    let grows = c.loop-i.invariant.grows in (
      ready_later c.args.b.now c.loop-i.b g.names c.args.way.now grows c.requires.ready,
      path_here c.args.b.now c.loop-i.b g.names c.args.way.now c.args.paths.now c.loop-i.i _ c.requires.paths grows
          c.loop-i-test.true c.index-paths-i.is,
    )

pub loop-i-preserved : goal.loop-i-preserved
loop-i-preserved g c =
    let i = c.loop-i.invariant in
    let part = c.in_ok-part.ensures in
    record {
      grows = Grows-trans _ _ _ i.grows part.grows;
      parts = parts_step c.args.b.now c.loop-i.b _ c.args.way.now c.args.paths.now c.loop-i.i c.loop-i.parts.items _ _
          c.in_ok-part.part
          c.loop-i-test.true c.index-paths-i.is i.grows part.grows i.parts part.part c.in_ok-push.ensures.items;
      whole = wholes_more c.loop-i.b _ g.names c.loop-i.parts.items _ c.in_ok-part.part part.grows i.whole part.whole
          c.in_ok-push.ensures.items;
    }

pub returns-clause-parts : goal.returns-clause-parts
returns-clause-parts g c =
    parts_all c.args.b.now _ c.args.way.now c.args.paths.now c.loop-i.i c.loop-i.parts.items c.loop-i-test.false
    c.loop-i.invariant.parts
