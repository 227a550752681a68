use Rattle.std.proofs.Common.{refl, ◌∙◌}
use Rattle.flat_modules.proofs.Walking.{cut_more, lets_step}
use Rattle.flat_modules.proofs.resolving.Resolving.tell_lets.Goals as goal

pub loop-name-preserved : goal.loop-name-preserved
loop-name-preserved c = (
  cut_more c.in_ok-entry.entry c.len-before.ensures c.loop-name.invariant.0 (c.in_ok-tell_parameters.ensures.scope ∙ c.in_ok-tell_repeated.ensures.scope) c.in_ok-push.ensures,
  lets_step c.args.lets.now c.loop-name.rest.now c.front.result.now c.behind-rest.result.now c.loop-name.name-index c.loop-name-item.result c.in_ok-entry.entry
      c.loop-name-test.true c.loop-name-item.is c.front.ensures c.behind-rest.ensures c.loop-name.invariant.1 c.in_ok-entry.ensures
      c.in_ok-tell_repeated.ensures c.in_ok-tell_parameters.ensures c.in_ok-push.ensures refl,
)
