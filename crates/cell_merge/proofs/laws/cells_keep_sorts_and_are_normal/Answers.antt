use Rattle.cell_merge.proofs.SortLaws.{OfSort-later}
use Rattle.cell_merge.proofs.Normals.{decoded-normal}
use Rattle.cell_merge.proofs.laws.cells_keep_sorts_and_are_normal.Goals as goal

pub returns : goal.returns
returns c = record {
  sorts = λ old new s id g h. OfSort-later old new s id h g;
  normal = decoded-normal;
}
