use Rattle.kernel_trees.proofs.SoundPaths.{paths_are_sound}
use Rattle.kernel_trees.proofs.theorems.paths_of_sound_trees_are_sound.Goals as goal

pub returns : goal.returns
returns c = paths_are_sound
