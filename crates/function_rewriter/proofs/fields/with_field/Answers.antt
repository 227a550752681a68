use Rattle.function_rewriter.proofs.Composites.{sets-field}
use Rattle.function_rewriter.proofs.fields.with_field.Goals as goal

pub returns-clause-made : goal.returns-clause-made
returns-clause-made c = sets-field _ _ _ _ c.place_of-place.result _ _ c.place_of-place.ensures c.in_ok-made.ensures.made c.in_ok-made.ensures.grows
