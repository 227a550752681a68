use Rattle.bounded_engine.proofs.Firsts.{tells_first, tells_none}
use Rattle.bounded_engine.proofs.theorems.verdicts_tell_the_first_question.Goals as goal

pub returns : goal.returns
returns c = record { first = tells_first; none = tells_none }
