use Rattle.cell_arena.proofs.Growing.{Grows-refl, Grows-trans}
use Rattle.cell_merge.proofs.Layering.{narrows-refl, narrows-more}
use Rattle.cell_merge.proofs.picking.narrow.Goals as goal

pub loop-rest-init : goal.loop-rest-init
loop-rest-init c = record {
  grows = Grows-refl c.args.b.now;
  some = c.requires.some;
  narrows = narrows-refl c.args.b.now c.args.edges.items c.requires.edges.named;
}

pub loop-rest-preserved : goal.loop-rest-preserved
loop-rest-preserved c =
    let i = c.loop-rest.invariant in
    let count = c.in_ok-rest.ensures.count in
    let some = c.half_of-half.ensures.some in
    record {
      grows = Grows-trans _ _ _ i.grows c.in_ok-rest.ensures.grows;
      some = rw count some;
      narrows = narrows-more _ _ _ _ _ _ c.in_ok-rest.ensures.grows i.narrows (rw c.as_slice.ensures.value at c.in_ok-rest.ensures.narrows);
    }
