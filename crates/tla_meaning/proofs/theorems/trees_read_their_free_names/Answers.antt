use Rattle.tla_meaning.proofs.Laws.{frame}
use Rattle.tla_meaning.proofs.theorems.trees_read_their_free_names.Goals as goal

pub returns : goal.returns
returns c = λ w N B e a b h r. frame w N e B h a b r
