use Rattle.front_end.proofs.Answering.{told_type}
use Rattle.front_end.proofs.fault.of_type.Goals as goal

pub returns-in_default : goal.returns-in_default
returns-in_default c = told_type c.args.fault c.in_default.not-Memory
