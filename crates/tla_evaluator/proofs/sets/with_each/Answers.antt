use Rattle.tla_evaluator.proofs.ListLemmas.{with_each_more}
use Rattle.tla_evaluator.proofs.sets.with_each.Goals as goal

pub loop-x-preserved : goal.loop-x-preserved
loop-x-preserved c = with_each_more c.args.set.now _ _ _ _ _ _ c.loop-x-test.true c.x-item.is c.loop-x.invariant c.in_ok-push_with_first.ensures
