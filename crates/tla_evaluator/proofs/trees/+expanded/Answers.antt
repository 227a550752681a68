use Rattle.std.proofs.Common.{◌∙◌, sym}
use Rattle.tla_evaluator.proofs.TreeLemmas.{expanded_then}
use Rattle.tla_evaluator.proofs.trees.+expanded.Goals as goal

pub is_expanded-returns-then-is_expanded_op : goal.is_expanded-returns-then-is_expanded_op
is_expanded-returns-then-is_expanded_op t c =
    c.all_expanded.ensures ∙ expanded_then c.args.e.now _ c.as_slice.ensures (sym c.is_expanded_op.ensures ∙ c.if-is_expanded_op.true)
