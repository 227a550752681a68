use Rattle.snowcat_types.proofs.Fitting.{typed_ground}
use Rattle.snowcat_types.proofs.theorems.typings_are_ground.Goals as goal

pub returns : goal.returns
returns c = typed_ground
