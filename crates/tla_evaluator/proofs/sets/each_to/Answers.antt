use Rattle.tla_evaluator.proofs.ListLemmas.{each_to_more}
use Rattle.tla_evaluator.proofs.sets.each_to.Goals as goal

pub loop-preserved : goal.loop-preserved
loop-preserved c = each_to_more c.args.arguments.now c.args.results.now c.loop.index _ _ _ c.loop-test.true c.loop.invariant c.as_slice.ensures.value c.in_ok-lists-2.ensures
