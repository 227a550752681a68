use Rattle.front_end.proofs.Answering.{told_shape}
use Rattle.front_end.proofs.fault.of_shape.Goals as goal

pub returns-in_default : goal.returns-in_default
returns-in_default c = told_shape c.args.fault c.in_default.not-Memory
