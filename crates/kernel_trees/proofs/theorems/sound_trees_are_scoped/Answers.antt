use Rattle.tla_meaning.proofs.Views.{and_left, and_right}
use Rattle.kernel_trees.specs.Scoped.{scoped}
use Rattle.kernel_trees.specs.Sound.{bound_in, sound}
use Rattle.kernel_trees.proofs.SoundNames.{sound_below}
use Rattle.kernel_trees.proofs.theorems.sound_trees_are_scoped.Goals as goal

pub returns : goal.returns
returns c = λ names k d b h.
    (and_right (sound names k d b) (scoped k (bound_in d)) h, sound_below names k d b (and_left (sound names k d b) (scoped k (bound_in d)) h))
