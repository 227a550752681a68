use Rattle.tree_bounds.proofs.SoundBounds.{each_stays_sound}
use Rattle.tree_bounds.proofs.theorems.bounded_trees_stay_sound.Goals as goal

pub returns : goal.returns
returns c = each_stays_sound
