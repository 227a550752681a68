use Rattle.function_rewriter.proofs.Composites.{is-field}
use Rattle.function_rewriter.proofs.fields.field.Goals as goal

pub returns : goal.returns
returns c = is-field c.args.b.now c.args.r _ c.place_of-place.result _ c.place_of-place.ensures (c.part_at.ensures.part c.part_at.result)
