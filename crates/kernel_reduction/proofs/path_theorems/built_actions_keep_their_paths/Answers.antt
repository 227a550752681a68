use Rattle.kernel_reduction.proofs.PathLaws.{keeps_paths, keeps_paths_below}
use Rattle.kernel_reduction.proofs.path_theorems.built_actions_keep_their_paths.Goals as goal

pub returns-clause-paths : goal.returns-clause-paths
returns-clause-paths c = keeps_paths

pub returns-clause-below : goal.returns-clause-below
returns-clause-below c = keeps_paths_below
