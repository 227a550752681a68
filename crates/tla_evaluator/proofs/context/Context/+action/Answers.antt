use Rattle.std.proofs.Common.{arith, option_map, ap, ap₂, refl, sym, ◌∙◌}
use Rattle.tla_evaluator.proofs.Words.{NoFault, common_steps, out-Expr}
use Rattle.tla_evaluator.specs.inner.Effects.{act_in, acts, body_in, first_effect_in}
use Rattle.tla_evaluator.specs.inner.Readings.{effect_in}
use Rattle.tla_evaluator.proofs.ActionNodes.{act_is_node, acts_by_value, and_next, effect_gives_as, exists_body, or_next}
use Rattle.tla_evaluator.proofs.TreeSizes.{most-drop}
use Rattle.tla_evaluator.proofs.ListSteps.{members_normal}
use Rattle.tla_evaluator.proofs.context.Context.+action.Goals as goal

pub all_effects-loop-e-preserved : goal.all_effects-loop-e-preserved
all_effects-loop-e-preserved t c =
    and_next (effect_in c.args.self.now c.args.assigned) c.args.args.now _ _ c.in_ok-one.one _ _ _ c.loop-e-test.true c.e-item.is c.in_ok-one.ensures
    c.if-not-one.false c.join_faults-fault.ensures c.loop-e.invariant

pub some_effect-loop-e-preserved : goal.some_effect-loop-e-preserved
some_effect-loop-e-preserved t c =
    or_next (effect_in c.args.self.now c.args.assigned) c.args.args.now _ _ c.in_ok-one.one _ _ _ c.loop-e-test.true c.e-item.is c.in_ok-one.ensures
    c.either-all.ensures c.loop-e.invariant

pub body_effects-loop-choice-preserved : goal.body_effects-loop-choice-preserved
body_effects-loop-choice-preserved t c =
    or_next (body_in c.args.self.now c.args.assigned c.args.site.place c.args.trees.now c.args.site.names.now) c.args.choices.now _ _ c.in_ok-one.one _ _ _
    c.loop-choice-test.true c.choice-item.is
    (c.in_ok-one.ensures _ c.first_effect.ensures ∙ ap (λ r. first_effect_in r c.args.assigned c.args.site.place c.args.trees.now) c.in_ok-inner.ensures
    ∙ ap (body_in c.args.self.now c.args.assigned c.args.site.place c.args.trees.now c.args.site.names.now) c.as_slice.ensures)
    c.either-all.ensures c.loop-choice.invariant

pub exists_effect-body_effects-requires : goal.exists_effect-body_effects-requires
exists_effect-body_effects-requires t c =
    let some = members_normal _ _ _ _ c.as_slice.ensures c.as_slice-2.ensures.value c.in_ok-domains.ensures.normal
    (c.in_ok-choices_of.ensures ∙ ap (option_map (λ v. v.items)) c.in_ok-choices.ensures.ok_part) in
    (grind (arith, most-drop, common_steps), some)

pub exists_effect-returns : goal.exists_effect-returns
exists_effect-returns t c =
    effect_gives_as c.body_effects.result
    (exists_body _ _ c.args.site.place _ _ _ _ _ _ _ NoFault c.in_ok-domains.domains c.as_slice.result.now c.in_ok-choices.choices.items c.as_slice-2.result.now
    c.front.ensures c.after-trees.ensures (sym c.in_ok-domains.ensures.values.0) refl (sym c.in_ok-domains.ensures.values.1) c.as_slice.ensures
    (c.in_ok-choices_of.ensures ∙ ap (option_map (λ v. v.items)) c.in_ok-choices.ensures.ok_part) c.as_slice-2.ensures.value)
    c.body_effects.ensures

pub action-returns-then-is_action : goal.action-returns-then-is_action
action-returns-then-is_action t c =
    c.settled.ensures _ (effect_gives_as c.act.result
    (ap₂ (λ xs es. act_in c.args.self.now c.args.assigned (out-Expr c.args.e.now).place (out-Expr c.args.e.now).op xs es) c.as_slice-names.ensures c.as_slice-args.ensures
    ∙ act_is_node c.args.self.now c.args.assigned c.args.e.now (ap (acts c.args.assigned (out-Expr c.args.e.now).op) (sym c.as_slice-args.ensures) ∙ sym c.is_action.ensures ∙ c.if-is_action.true))
    c.act.ensures)

pub action-returns-else-is_action : goal.action-returns-else-is_action
action-returns-else-is_action t c =
    c.settled-else-is_action.ensures _ (effect_gives_as c.by_value.result
    (acts_by_value c.args.self.now c.args.assigned c.args.e.now (ap (acts c.args.assigned (out-Expr c.args.e.now).op) (sym c.as_slice-args.ensures) ∙ sym c.is_action.ensures ∙ c.if-is_action.false))
    c.by_value.ensures)
