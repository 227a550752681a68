use Rattle.path_cell_tests.proofs.TestedPaths.{zero-is}
use Rattle.path_cell_tests.proofs.systems.has_no_constant.Goals as goal

pub returns : goal.returns
returns c = λ h. zero-is c.count_of_constants.result _ h c.count_of_constants.ensures
