use Rattle.tla_evaluator.proofs.BinderLemmas.{kept_done}
use Rattle.tla_evaluator.proofs.binders.kept.Goals as goal

pub returns : goal.returns
returns c = kept_done c.args.choices.now c.args.passes.now c.loop-i.i _ _ c.loop-i-test.false c.loop-i.invariant
