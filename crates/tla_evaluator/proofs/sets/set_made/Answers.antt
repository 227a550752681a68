use Rattle.std.proofs.Common.{arith}
use Rattle.tla_evaluator.proofs.Words.{common_steps}
use Rattle.tla_evaluator.proofs.sets.set_made.Goals as goal

pub loop-list-preserved : goal.loop-list-preserved
loop-list-preserved g c = λ f h. let e = h _ _ c.in_ok-member.ensures in let i = c.loop-list.invariant f h in grind (arith, common_steps)
