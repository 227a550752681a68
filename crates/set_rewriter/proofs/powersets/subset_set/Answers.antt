use Rattle.std.proofs.Common.{◌∙◌}
use Rattle.cell_merge.specs.Sorts.{set_of as set_sort}
use Rattle.cell_merge.proofs.Chosen.{lead-there}
use Rattle.set_rewriter.proofs.Powers.{always-named, always-lead, powerset-of}
use Rattle.set_rewriter.proofs.powersets.subset_set.Goals as goal

pub set-requires-clause-named : goal.set-requires-clause-named
set-requires-clause-named c = rw (c.from_vec.ensures, c.in_ok-all.ensures) (always-named _ c.top-top.result c.as_slice.result.now c.top-top.ensures.below)

pub set-requires-clause-older : goal.set-requires-clause-older
set-requires-clause-older c =
    let r = c.requires.edges in
    let cells = c.in_ok-cells.ensures.subsets.sorts r.sort r.cells in
    rw (c.from_vec.ensures, c.in_ok-all.ensures, c.as_slice.ensures.value) (lead-there _ (set_sort r.sort) _ (always-lead _ (set_sort r.sort) c.top-top.result c.in_ok-cells.cells.items cells))

pub returns-clause-powerset : goal.returns-clause-powerset
returns-clause-powerset c =
    let always = rw c.as_slice.ensures.value at (c.from_vec.ensures ∙ c.in_ok-all.ensures) in
    powerset-of c.args.b.now _ _ _ c.args.edges.now _ c.in_ok-cells.cells.items c.top-top.result c.in_ok-id.ensures.grows c.top-top.ensures.forced c.in_ok-cells.ensures.subsets always
    c.in_ok-id.ensures.cell c.in_ok-id.ensures.value
