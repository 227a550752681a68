use Rattle.typed_cells.proofs.NewCells.{tuple-sort}
use Rattle.typed_cells.proofs.composites.tuple_of_cells.Goals as goal

pub returns-clause-sort : goal.returns-clause-sort
returns-clause-sort c =
    λ ss h. tuple-sort c.args.b.now _ _ _ _ c.from_vec.ensures ss c.in_ok-id.ensures.cell c.in_ok-id.ensures.grows h
