use Rattle.kernel_reduction.proofs.Kept.{keeps_outcomes}
use Rattle.kernel_reduction.proofs.theorems.what_is_built_keeps_its_outcomes.Goals as goal

pub returns : goal.returns
returns c = keeps_outcomes
