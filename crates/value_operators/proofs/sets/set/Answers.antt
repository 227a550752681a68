use Rattle.std.proofs.Common.{refl}
use Rattle.cell_arena.proofs.Growing.{Grows-formula}
use Rattle.cell_merge.specs.Sorts.{set_of}
use Rattle.cell_merge.proofs.Chosen.{lead-there}
use Rattle.cell_merge.proofs.SortLaws.{sort-set}
use Rattle.set_rewriter.proofs.Powers.{always-lead, always-named}
use Rattle.value_operators.proofs.NewCells.{grows-on}
use Rattle.value_operators.proofs.SetRows.{set-shown}
use Rattle.value_operators.proofs.sets.set.Goals as goal

pub join_alike-requires : goal.join_alike-requires
join_alike-requires c =
    let b = c.args.b.now in
    let r = c.requires in
    rw (c.as_slice.ensures.value, c.in_ok-all.ensures) (record {
      edges = record {
        sort = r.sort;
        cells = always-lead b.arena.kinds r.sort c.top-top.result c.args.members.now r.cells;
        named = always-named b.formula.vars c.top-top.result c.args.members.now c.top-top.ensures.below;
      };
    })

pub set-requires-clause-older : goal.set-requires-clause-older
set-requires-clause-older c =
    let b = c.args.b.now in
    let r = c.requires in
    let j = rw (c.as_slice.ensures.value, c.in_ok-all.ensures) at c.in_ok-edges.ensures.joins in
    let k = always-lead b.arena.kinds r.sort c.top-top.result c.args.members.now r.cells in
    rw c.from_vec.ensures (lead-there b.arena.kinds r.sort _ (j.sorts r.sort k))

pub returns-in_err-id-clause-grows : goal.returns-in_err-id-clause-grows
returns-in_err-id-clause-grows c = grows-on _ _ _ c.in_ok-edges.ensures.grows refl c.in_err-id.ensures.grows

pub returns-clause-cells : goal.returns-clause-cells
returns-clause-cells c =
    let b = c.args.b.now in
    let j = rw (c.as_slice.ensures.value, c.in_ok-all.ensures, ← c.from_vec.ensures) at c.in_ok-edges.ensures.joins in
    record {
      cells = λ s h.
          let k = j.sorts s (always-lead b.arena.kinds s c.top-top.result c.args.members.now h) in
          c.sure.ensures.cells (set_of s) (sort-set _ _ _ s _ c.in_ok-id.ensures.cell c.in_ok-id.ensures.grows k);
    }

pub returns-clause-row : goal.returns-clause-row
returns-clause-row c =
    let b = c.args.b.now in
    let j = rw (c.as_slice.ensures.value, c.in_ok-all.ensures, ← c.from_vec.ensures) at c.in_ok-edges.ensures.joins in
    set-shown b _ _ c.top-top.result c.args.members.now _ _ _ refl (Grows-formula b _ c.in_ok-edges.ensures.grows refl)
    c.in_ok-id.ensures.grows c.top-top.ensures.forced j c.in_ok-id.ensures.value c.sure.ensures.shows
