use Rattle.front_end.proofs.Answering.{told_ker}
use Rattle.front_end.proofs.fault.of_ker.Goals as goal

pub returns-in_default : goal.returns-in_default
returns-in_default c = told_ker c.args.fault c.in_default.not-Memory
