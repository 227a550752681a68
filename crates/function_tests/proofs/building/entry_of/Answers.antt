use Rattle.std.proofs.Common.{refl}
use Rattle.cell_merge.proofs.SortLaws.{sort-record}
use Rattle.function_tests.specs.Shapes.{either_sort, names}
use Rattle.function_tests.proofs.Shaped.{names-differ, placed-two}
use Rattle.function_tests.proofs.building.entry_of.Goals as goal

pub returns-clause-sort : goal.returns-clause-sort
returns-clause-sort c = λ s t p q.
    sort-record _ _ _ names (either_sort s t) _ c.in_ok-id.ensures.cell c.in_ok-id.ensures.grows (rw c.in_ok-fields.ensures refl) (rw c.in_ok-fields.ensures (placed-two c.args.b.now.arena.kinds s t c.args.x c.args.y p q))

pub rec-requires-clause-differ : goal.rec-requires-clause-differ
rec-requires-clause-differ c = rw c.in_ok-fields.ensures names-differ
