use Rattle.std.proofs.lemmas.List.{get_or_default}
use Rattle.sat_formula.proofs.Extension.{Grows-trans}
use Rattle.cell_merge.proofs.Edges.{sort-there}
use Rattle.cell_merge.proofs.Unions.{alike-more}
use Rattle.cell_merge.proofs.merging.join_alike.Goals as goal

pub part-requires-clause-cell_there : goal.part-requires-clause-cell_there
part-requires-clause-cell_there c = sort-there _ c.requires.edges.sort _ (c.requires.edges.cells _ _ c.loop-l-test.true)

pub part-requires-clause-there : goal.part-requires-clause-there
part-requires-clause-there c =
    let cells = c.loop-l.invariant.joins.sorts c.requires.edges.sort c.requires.edges.cells in
    rw c.as_slice.ensures.value (λ k d lt. sort-there _ c.requires.edges.sort _ (cells k d lt))

pub loop-l-preserved : goal.loop-l-preserved
loop-l-preserved c =
    let i = c.loop-l.invariant in
    record {
      grows = Grows-trans _ _ _ i.grows (Grows-trans _ _ _ c.in_ok-found.ensures.grows c.in_ok-join_onto.ensures.grows);
      joins = alike-more _ _ _ _ c.args.edges.now _ _ _ _ _ _ c.loop-l-test.true (get_or_default _ _ _ _ c.loop-l-test.true) i.joins
          (rw c.as_slice.ensures.value at c.in_ok-found.ensures.parted) (c.in_ok-join_onto.ensures.joins c.args.arena.now.kinds) c.in_ok-found.ensures.grows c.in_ok-join_onto.ensures.grows;
    }
