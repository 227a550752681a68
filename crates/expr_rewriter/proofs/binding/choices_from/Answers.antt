use Rattle.std.proofs.Common.{◌∙◌}
use Rattle.expr_rewriter.proofs.Bound.{set_ids}
use Rattle.expr_rewriter.proofs.binding.choices_from.Goals as goal

pub choices-requires : goal.choices-requires
choices-requires c = set_ids c.args.b.now c.args.sets.now _ (c.as_slice.ensures.value ∙ c.in_ok-ids.ensures) c.requires
