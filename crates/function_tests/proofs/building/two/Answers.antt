use Rattle.cell_merge.proofs.SortLaws.{sort-tuple}
use Rattle.function_tests.specs.Shapes.{either_sort}
use Rattle.function_tests.proofs.Shaped.{placed-two}
use Rattle.function_tests.proofs.building.two.Goals as goal

pub returns-clause-sort : goal.returns-clause-sort
returns-clause-sort c = λ s t p q.
    sort-tuple _ _ _ 2 (either_sort s t) _ c.in_ok-id.ensures.cell c.in_ok-id.ensures.grows (rw (c.from_vec.ensures, c.in_ok-parts.ensures.items) (placed-two c.args.b.now.arena.kinds s t c.args.x c.args.y p q))
