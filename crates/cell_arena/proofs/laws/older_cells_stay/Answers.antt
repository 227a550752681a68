use Rattle.cell_arena.proofs.Growing.{kind-before, decode-before, decode-assigned}
use Rattle.cell_arena.proofs.laws.older_cells_stay.Goals as goal

pub returns : goal.returns
returns c = record {
  kinds = kind-before;
  values = λ old new id a g lt. decode-before old new a id g lt;
  assigned = decode-assigned;
}
