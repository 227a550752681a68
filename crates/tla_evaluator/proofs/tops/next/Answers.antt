use Rattle.std.proofs.Common.{ap, filter, length, ◌∙◌}
use Rattle.tla_evaluator.proofs.Words.{Decl, PrimedVariables, outcome_of}
use Rattle.tla_evaluator.specs.inner.Readings.{effect_in}
use Rattle.tla_evaluator.proofs.TopLemmas.{next_is}
use Rattle.tla_evaluator.proofs.tops.next.Goals as goal

pub returns : goal.returns
returns c =
    c.outcome_of.ensures ∙ ap outcome_of (c.in_ok-effect.ensures ∙ ap (λ r. effect_in r (PrimedVariables c.constants-count.result) c.args.job.now.next) c.unbound-context.ensures)
    ∙ next_is _ _ c.args.job.now _ _ (c.constants-count.ensures ∙ ap (λ ds. length (filter (λ (d : Decl). d.constant) ds)) c.as_slice.ensures) c.requires.expanded
