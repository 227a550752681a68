use Rattle.kernel_shapes.proofs.LevelLaw.{each_level_fits}
use Rattle.kernel_shapes.proofs.StartLaw.{each_start_fits}
use Rattle.kernel_shapes.proofs.theorems.states_fit_the_shapes_of_their_levels.Goals as goal

pub returns-clause-start : goal.returns-clause-start
returns-clause-start c = each_start_fits

pub returns-clause-levels : goal.returns-clause-levels
returns-clause-levels c = each_level_fits
