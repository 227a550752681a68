use Rattle.std.proofs.Common.{Some}
use Rattle.bounded_engine.proofs.Certified.{none_certified}
use Rattle.bounded_engine.proofs.Journals.{none_errs_below}
use Rattle.bounded_engine.proofs.theorems.sections_tell_of_their_levels.Goals as goal

pub returns-clause-questions : goal.returns-clause-questions
returns-clause-questions c = none_certified

pub returns-clause-errors : goal.returns-clause-errors
returns-clause-errors c = λ w job n sections are. none_errs_below w job n (none_certified (Some w) job n sections are)
