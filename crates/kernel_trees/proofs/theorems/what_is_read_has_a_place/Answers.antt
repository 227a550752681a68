use Rattle.kernel_trees.proofs.ReadPlaces.{read_places}
use Rattle.kernel_trees.proofs.theorems.what_is_read_has_a_place.Goals as goal

pub returns : goal.returns
returns c = read_places
