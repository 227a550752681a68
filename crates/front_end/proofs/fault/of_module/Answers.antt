use Rattle.front_end.proofs.Answering.{told_module}
use Rattle.front_end.proofs.fault.of_module.Goals as goal

pub returns-in_default : goal.returns-in_default
returns-in_default c = told_module c.args.fault c.in_default.not-Memory
