use Rattle.std.proofs.lemmas.Slice.Eq.{slice_eq-Decides}
use Rattle.cell_arena.proofs.Telling.{arrow_decides}
use Rattle.cell_arena.proofs.alike.same_arrows.Goals as goal

pub returns : goal.returns
returns c = slice_eq-Decides arrow_decides c.args.a.now c.args.b.now c.eq.result c.eq.ensures
