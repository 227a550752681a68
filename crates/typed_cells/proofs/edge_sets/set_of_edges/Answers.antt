use Rattle.typed_cells.proofs.NewCells.{edges-set, given-there}
use Rattle.typed_cells.proofs.edge_sets.set_of_edges.Goals as goal

pub set-requires-clause-older : goal.set-requires-clause-older
set-requires-clause-older c = given-there _ _ _ _ c.from_vec.ensures c.requires.cells

pub returns-clause-set : goal.returns-clause-set
returns-clause-set c =
    edges-set c.args.b.now _ _ _ _ c.from_vec.ensures
    c.in_ok-id.ensures.cell c.in_ok-id.ensures.grows c.in_ok-id.ensures.value
