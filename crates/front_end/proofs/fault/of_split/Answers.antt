use Rattle.front_end.proofs.Answering.{told_split}
use Rattle.front_end.proofs.fault.of_split.Goals as goal

pub returns-in_default : goal.returns-in_default
returns-in_default c = told_split c.args.fault c.in_default.not-Memory
