use Rattle.std.proofs.Common.{refl}
use Rattle.cell_arena.proofs.Growing.{Grows-formula, Grows-trans}
use Rattle.typed_cells.proofs.NewCells.{given-there, joined-edges}
use Rattle.typed_cells.proofs.edge_sets.set_of_joined_edges.Goals as goal

pub set-requires-clause-older : goal.set-requires-clause-older
set-requires-clause-older c =
    given-there _ _ _ _ c.from_vec.ensures (c.in_ok-joined.ensures.joins.sorts c.requires.sort c.requires.cells)

pub returns-in_err-id-clause-grows : goal.returns-in_err-id-clause-grows
returns-in_err-id-clause-grows c =
    Grows-trans _ _ _ (Grows-formula _ _ c.in_ok-joined.ensures.grows refl) c.in_err-id.ensures.grows

pub returns-clause-set : goal.returns-clause-set
returns-clause-set c =
    joined-edges c.args.b.now _ _ _ _ _ _ c.from_vec.ensures refl c.in_ok-joined.ensures.joins
    c.in_ok-id.ensures.cell c.in_ok-id.ensures.grows c.in_ok-id.ensures.value
