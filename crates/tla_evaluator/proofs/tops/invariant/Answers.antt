use Rattle.std.proofs.Common.{ap, sym, ◌∙◌}
use Rattle.tla_evaluator.specs.inner.Readings.{value_in}
use Rattle.tla_evaluator.proofs.TopLemmas.{yes_before, yes_same, no_here, no_at}
use Rattle.tla_evaluator.proofs.tops.invariant.Goals as goal

pub returns-then-not-is_yes-clause-outcome : goal.returns-then-not-is_yes-clause-outcome
returns-then-not-is_yes-clause-outcome c =
    no_here _ _ c.args.job.now.invs _ c.as_slice-named-items.ensures _ _ _ c.loop-i-test.true c.named-item.is (c.in_ok-outcome.ensures _ c.value.ensures ∙ ap (λ r. value_in r c.named-item.result.1) c.unbound-context.ensures) c.requires.expanded _
    (sym c.is_yes.ensures ∙ c.if-not-is_yes.true) c.loop-i.invariant.same

pub returns-then-not-is_yes-clause-at : goal.returns-then-not-is_yes-clause-at
returns-then-not-is_yes-clause-at c =
    no_at _ _ c.args.job.now.invs _ c.as_slice-named-items.ensures _ _ _ c.loop-i-test.true c.named-item.is (c.in_ok-outcome.ensures _ c.value.ensures ∙ ap (λ r. value_in r c.named-item.result.1) c.unbound-context.ensures) c.requires.expanded
    (sym c.is_yes.ensures ∙ c.if-not-is_yes.true)

pub loop-i-preserved : goal.loop-i-preserved
loop-i-preserved c = record {
  before =
      yes_before _ _ c.args.job.now.invs _ c.as_slice-named-items.ensures _ _ _ c.loop-i-test.true c.named-item.is (c.in_ok-outcome.ensures _ c.value.ensures ∙ ap (λ r. value_in r c.named-item.result.1) c.unbound-context.ensures) c.requires.expanded
      (sym c.is_yes.ensures ∙ c.if-not-is_yes.false) c.loop-i.invariant.before;
  same =
      yes_same _ _ c.args.job.now.invs _ c.as_slice-named-items.ensures _ _ _ c.loop-i-test.true c.named-item.is (c.in_ok-outcome.ensures _ c.value.ensures ∙ ap (λ r. value_in r c.named-item.result.1) c.unbound-context.ensures) c.requires.expanded _
      (sym c.is_yes.ensures ∙ c.if-not-is_yes.false) c.loop-i.invariant.same;
}
