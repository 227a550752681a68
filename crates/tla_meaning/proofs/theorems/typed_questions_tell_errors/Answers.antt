use Rattle.std.proofs.Common.{Some}
use Rattle.tla_meaning.proofs.LevelLaw.{none_errs_typed, typed_not_true_errs, typed_wrong_errs}
use Rattle.tla_meaning.proofs.theorems.typed_questions_tell_errors.Goals as goal

pub returns : goal.returns
returns c = record {
  step_wrong = λ within w job is. typed_wrong_errs within (Some w) job is.holds;
  not_true = λ within w job is. typed_not_true_errs within (Some w) job is.holds;
  none = λ within w job level none. none_errs_typed within w job none level;
}
