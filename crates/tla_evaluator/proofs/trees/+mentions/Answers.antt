use Rattle.std.proofs.Common.{sym, ◌∙◌}
use Rattle.tla_evaluator.proofs.MentionLemmas.{mentions_inner}
use Rattle.tla_evaluator.proofs.trees.+mentions.Goals as goal

pub mentions-returns-then-is_expanded_op : goal.mentions-returns-then-is_expanded_op
mentions-returns-then-is_expanded_op t c =
    c.any_mentions.ensures ∙ mentions_inner c.args.assigned c.args.e.now _ c.as_slice.ensures c.in_default.not-Name (sym c.is_expanded_op.ensures ∙ c.if-is_expanded_op.true)
