use Rattle.std.proofs.Common.{refl}
use Rattle.typed_cells.proofs.NewCells.{sequence-sort}
use Rattle.typed_cells.proofs.composites.sequence_of_cells.Goals as goal

pub returns-clause-sort : goal.returns-clause-sort
returns-clause-sort c =
    λ s h. sequence-sort c.args.b.now _ _ _ _ _ _ s c.from_vec.ensures refl
    c.in_ok-id.ensures.cell c.in_ok-id.ensures.grows h
