use Rattle.std.proofs.Common.{◌≡◌, drop, map}
use Rattle.tla_evaluator.proofs.Words.{effects_and, effects_or}
use Rattle.tla_evaluator.specs.inner.Effects.{behind, body_in, either}
use Rattle.tla_evaluator.specs.inner.Readings.{effects_in}
use Rattle.tla_evaluator.proofs.context.Context.+action.Given as goal

abbrev pub invariant-all_effects-loop-e : goal.invariant-all_effects-loop-e
invariant-all_effects-loop-e l =
    behind l.fault (effects_and (effects_in l.self l.assigned (drop l.e-index l.args)))
    ≡ effects_and (effects_in l.self l.assigned l.args)

abbrev pub invariant-some_effect-loop-e : goal.invariant-some_effect-loop-e
invariant-some_effect-loop-e l =
    either l.all (effects_or (effects_in l.self l.assigned (drop l.e-index l.args)))
    ≡ effects_or (effects_in l.self l.assigned l.args)

abbrev pub invariant-body_effects-loop-choice : goal.invariant-body_effects-loop-choice
invariant-body_effects-loop-choice l =
    either l.all (effects_or (map (body_in l.self l.assigned l.site.place l.trees l.site.names.now) (drop l.choice-index l.choices)))
    ≡ effects_or (map (body_in l.self l.assigned l.site.place l.trees l.site.names.now) l.choices)
