use Rattle.cell_arena.proofs.Growing.{Grows-refl, Grows-trans}
use Rattle.branch_cells.proofs.Narrowing.{narrows_more, narrows_refl}
use Rattle.branch_cells.proofs.merging.narrow.Goals as goal

pub loop-rest-init : goal.loop-rest-init
loop-rest-init g c = record {
  grows = Grows-refl c.args.b.now;
  some = c.requires.1;
  narrows = narrows_refl c.args.b.now c.args.parts.items;
  whole = c.requires.0;
}

pub loop-rest-preserved : goal.loop-rest-preserved
loop-rest-preserved g c =
    let i = c.loop-rest.invariant in
    let r = c.in_ok-rest.ensures in
    let count = r.whole.1 in
    let some = c.half_of-half.ensures.some in
    record {
      grows = Grows-trans _ _ _ i.grows r.grows;
      some = rw count some;
      narrows = narrows_more c.args.b.now c.loop-rest.b _ g.names c.args.parts.items c.loop-rest.rest.items _ i.grows
          r.grows c.requires.0 i.whole i.narrows
          (rw c.as_slice.ensures.value at r.narrows);
      whole = r.whole.0;
    }
