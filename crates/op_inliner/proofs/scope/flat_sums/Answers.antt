use Rattle.op_inliner.proofs.SumSteps.{flat_push}
use Rattle.op_inliner.proofs.scope.flat_sums.Goals as goal

pub loop-counted-preserved : goal.loop-counted-preserved
loop-counted-preserved c =
    rw (c.in_ok-push-3.ensures.items, c.in_ok-push-2.ensures.items, c.in_ok-push.ensures.items)
    (flat_push c.loop-counted.yielded c.in-Some.counted c.loop-counted.sums.items c.loop-counted.invariant)
