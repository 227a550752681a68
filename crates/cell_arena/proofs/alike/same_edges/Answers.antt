use Rattle.std.proofs.lemmas.Slice.Eq.{slice_eq-Decides}
use Rattle.cell_arena.proofs.Telling.{edge_decides}
use Rattle.cell_arena.proofs.alike.same_edges.Goals as goal

pub returns : goal.returns
returns c = slice_eq-Decides edge_decides c.args.a.now c.args.b.now c.eq.result c.eq.ensures
