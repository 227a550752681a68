use Rattle.front_end.proofs.Answering.{told_assign}
use Rattle.front_end.proofs.fault.of_assign.Goals as goal

pub returns-in_default : goal.returns-in_default
returns-in_default c = told_assign c.args.fault c.in_default.not-Memory
