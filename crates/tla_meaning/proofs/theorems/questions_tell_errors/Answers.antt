use Rattle.std.proofs.Common.{Some}
use Rattle.tla_meaning.proofs.LevelLaw.{both_ways, not_true_errs, none_errs, wrong_errs}
use Rattle.tla_meaning.proofs.theorems.questions_tell_errors.Goals as goal

pub returns : goal.returns
returns c = record {
  executions = λ w n job ss none le. both_ways w job n none ss le;
  step_wrong = λ w n job is. wrong_errs (Some w) job n is.holds;
  not_true = λ w n job is. not_true_errs (Some w) job n is.holds;
  none = λ w n job none. none_errs w job n none;
}
