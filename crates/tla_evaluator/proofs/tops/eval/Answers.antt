use Rattle.std.proofs.Common.{◌∙◌, ap, sym, subst}
use Rattle.tla_evaluator.proofs.Words.{All, Normal}
use Rattle.tla_evaluator.specs.Trees.{AreNormal}
use Rattle.tla_evaluator.specs.inner.Bound.{bindings}
use Rattle.tla_evaluator.specs.inner.Readings.{value_in}
use Rattle.tla_evaluator.proofs.EvalSteps.{via}
use Rattle.tla_evaluator.proofs.TopLemmas.{answer_normal, eval_is, next_normal, next_or}
use Rattle.tla_evaluator.proofs.tops.eval.Goals as goal

pub new-context-requires-clause-normal : goal.new-context-requires-clause-normal
new-context-requires-clause-normal c = record {
  bound = subst (All (λ b. Normal b.1)) (sym (c.in_ok-bound.ensures ∙ c.as_slice.ensures)) c.requires.bound;
  now = c.requires.now;
  next = subst (λ n. All Normal n.now.vals) (sym c.unwrap_or.ensures) (next_normal c.args.t c.args.s c.requires.next c.requires.now);
}

pub returns-clause-value : goal.returns-clause-value
returns-clause-value c =
    via _ (ap (λ r. value_in r c.args.e.now) c.new-context.ensures
    ∙ eval_is c.args.width c.args.e.now c.args.env.now (bindings c.in_ok-bound.bound.items) c.args.s.now c.unwrap_or.result.now _ (c.in_ok-bound.ensures ∙ c.as_slice.ensures)
    (sym (ap (λ b. b.now) c.unwrap_or.ensures ∙ next_or c.args.t c.args.s)) c.requires.expanded)
    (c.told.ensures _ c.value.ensures)

pub returns-clause-normal : goal.returns-clause-normal
returns-clause-normal c =
    let ok : AreNormal (bindings c.in_ok-bound.bound.items) c.args.s.now c.unwrap_or.result.now = record {
      bound = subst (All (λ b. Normal b.1)) (sym (c.in_ok-bound.ensures ∙ c.as_slice.ensures)) c.requires.bound;
      now = c.requires.now;
      next = subst (λ n. All Normal n.now.vals) (sym c.unwrap_or.ensures) (next_normal c.args.t c.args.s c.requires.next c.requires.now);
    } in
    answer_normal _ c.args.width c.args.e.now (bindings c.in_ok-bound.bound.items) c.args.s.now c.unwrap_or.result.now ok
    (via _ (ap (λ r. value_in r c.args.e.now) c.new-context.ensures) (c.told.ensures _ c.value.ensures))
