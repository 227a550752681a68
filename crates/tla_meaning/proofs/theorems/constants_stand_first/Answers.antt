use Rattle.tla_meaning.proofs.NameLaw.{constants_stand}
use Rattle.tla_meaning.proofs.theorems.constants_stand_first.Goals as goal

pub returns : goal.returns
returns c = λ job i d is e. constants_stand job is i d e
