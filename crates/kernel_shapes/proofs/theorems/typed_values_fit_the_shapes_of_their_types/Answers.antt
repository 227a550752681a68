use Rattle.kernel_shapes.proofs.TypedLaw.{each_typed_state_fits, each_typed_value_fits}
use Rattle.kernel_shapes.proofs.theorems.typed_values_fit_the_shapes_of_their_types.Goals as goal

pub returns-clause-values : goal.returns-clause-values
returns-clause-values c = each_typed_value_fits

pub returns-clause-states : goal.returns-clause-states
returns-clause-states c = each_typed_state_fits
