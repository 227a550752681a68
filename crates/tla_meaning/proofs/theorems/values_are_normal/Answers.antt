use Rattle.tla_meaning.proofs.NormalLaw.{val_normal}
use Rattle.tla_meaning.proofs.theorems.values_are_normal.Goals as goal

pub returns : goal.returns
returns c = val_normal
