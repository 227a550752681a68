use Rattle.front_end.proofs.Answering.{stayed}
use Rattle.front_end.proofs.accepting.where_known.Goals as goal

pub returns-else-known : goal.returns-else-known
returns-else-known c = λ held before now one stay. rw c.at_module.ensures (stayed before now stay)
