use Rattle.kernel_shapes.proofs.SoundShapes.{each_tree_has_a_sound_shape}
use Rattle.kernel_shapes.proofs.theorems.sound_trees_have_shapes_of_their_types.Goals as goal

pub returns : goal.returns
returns c = each_tree_has_a_sound_shape
