use Rattle.cell_merge.proofs.Unions.{merges-joined}
use Rattle.cell_merge.proofs.merging.merge_edges.Goals as goal

pub returns-clause-merges : goal.returns-clause-merges
returns-clause-merges c =
    merges-joined _ _ _ _ _ _ _ c.in_ok-left.ensures.joins c.in_ok-right.ensures.joins _ _ _ (rw (c.as_slice.ensures.value, c.as_slice-2.ensures.value) at c.in_ok-out.ensures.merges)
    c.in_ok-right.ensures.grows c.in_ok-out.ensures.grows
