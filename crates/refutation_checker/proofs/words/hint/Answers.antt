use Rattle.std.proofs.Common.{arith}
use Rattle.refutation_checker.proofs.Numbers.{none_positive}
use Rattle.refutation_checker.proofs.words.hint.Goals as goal

pub returns-in_default : goal.returns-in_default
returns-in_default c = λ m fits w. none_positive c.args.word.now _ c.in-Some.n (omega arith) c.if-n-gt0.false c.in-Some.ensures.0 c.in-Some.ensures.1 m fits.0 fits.1 w
