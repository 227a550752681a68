use Rattle.tla_meaning.proofs.Renaming.{renaming}
use Rattle.tla_meaning.proofs.theorems.bound_names_may_be_renamed.Goals as goal

pub returns : goal.returns
returns c = λ w ρ e a b k r. renaming w ρ k e a b r
