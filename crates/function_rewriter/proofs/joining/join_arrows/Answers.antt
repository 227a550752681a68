use Rattle.std.proofs.Common.{refl}
use Rattle.function_rewriter.proofs.Joins.{joins-none, joins-push, joins-hidden}
use Rattle.function_rewriter.proofs.joining.join_arrows.Goals as goal

pub loop-f-init : goal.loop-f-init
loop-f-init c = joins-none _ _ _ _ c.in_ok-out.ensures.items

pub loop-f-preserved-then-is_hidden : goal.loop-f-preserved-then-is_hidden
loop-f-preserved-then-is_hidden c = joins-hidden _ _ _ _ c.loop-f.f-index _ c.loop-f-test.true c.loop-f.invariant _ (c.is_hidden.ensures c.if-is_hidden.true) refl

pub loop-f-preserved : goal.loop-f-preserved
loop-f-preserved c = joins-push _ _ _ _ c.loop-f.f-index _ c.loop-f-test.true c.loop-f.invariant _ c.in_ok-push.ensures.items
