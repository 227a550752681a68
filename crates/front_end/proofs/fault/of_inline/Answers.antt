use Rattle.front_end.proofs.Answering.{told_inline}
use Rattle.front_end.proofs.fault.of_inline.Goals as goal

pub returns-in_default : goal.returns-in_default
returns-in_default c = told_inline c.args.fault c.in_default.not-Memory
