use Rattle.cell_merge.proofs.SortLaws.{sort-set}
use Rattle.function_tests.specs.Shapes.{entry_sort}
use Rattle.function_tests.proofs.Shaped.{both-edges}
use Rattle.function_tests.proofs.building.two_edges.Goals as goal

pub returns-clause-sort : goal.returns-clause-sort
returns-clause-sort c =
    sort-set _ _ _ entry_sort _ c.in_ok-id.ensures.cell c.in_ok-id.ensures.grows
    (rw (c.from_vec.ensures, c.in_ok-edges.ensures.items) (both-edges c.args.b.now.arena.kinds entry_sort c.args.x c.args.y c.requires.x_sort c.requires.y_sort))
