use Rattle.kernel_shapes.proofs.FormLaw.{each_member_fits}
use Rattle.kernel_shapes.proofs.Law.{each_value_fits}
use Rattle.kernel_shapes.proofs.SoundShapes.{each_sound_value_fits}
use Rattle.kernel_shapes.proofs.theorems.values_fit_their_shapes.Goals as goal

pub returns-clause-trees : goal.returns-clause-trees
returns-clause-trees c = each_value_fits

pub returns-clause-kernel : goal.returns-clause-kernel
returns-clause-kernel c = each_sound_value_fits

pub returns-clause-forms : goal.returns-clause-forms
returns-clause-forms c = each_member_fits
