use Rattle.kernel_reduction.proofs.PathLaws.{keeps_actions}
use Rattle.kernel_reduction.proofs.path_theorems.built_actions_keep_their_effect.Goals as goal

pub returns : goal.returns
returns c = keeps_actions
