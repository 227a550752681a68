use Rattle.std.proofs.Common.{rules}
use Rattle.tla_evaluator.proofs.RowLemmas.{numbered-next}
use Rattle.tla_evaluator.proofs.sequences.sequence.Goals as goal

pub loop-item-preserved : goal.loop-item-preserved
loop-item-preserved c =
    numbered-next c.loop-item.yielded c.in-Some.item _ _ _ c.loop-item.invariant (search rules) c.in_ok-push.ensures.items
