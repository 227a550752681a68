use Rattle.std.proofs.Common.{ap, ◌∙◌}
use Rattle.tla_evaluator.proofs.Words.{Primed, outcome_of}
use Rattle.tla_evaluator.specs.inner.Readings.{effect_in}
use Rattle.tla_evaluator.proofs.TopLemmas.{act_is}
use Rattle.tla_evaluator.proofs.tops.act.Goals as goal

pub returns : goal.returns
returns c =
    c.outcome_of.ensures ∙ ap outcome_of (c.in_ok-effect.ensures ∙ ap (λ r. effect_in r Primed c.args.a.now) c.unbound-context.ensures)
    ∙ act_is c.args.width Primed c.args.a.now c.args.s.now c.args.t.now c.requires.expanded
