use Rattle.std.proofs.Common.{◌≡◌, ap, filter, length, ◌∙◌}
use Rattle.tla_evaluator.proofs.Words.{Constants, Decl, Variables, constants, effect_of, outcome_of}
use Rattle.tla_evaluator.specs.inner.Effects.{behind}
use Rattle.tla_evaluator.specs.inner.Readings.{effect_in, value_in}
use Rattle.tla_evaluator.proofs.TopLemmas.{stops_first, stops_second, goes_on}
use Rattle.tla_evaluator.proofs.tops.start.Goals as goal

pub returns-then-not-cinit : goal.returns-then-not-cinit
returns-then-not-cinit c =
    let count : c.constants-count.result ≡ constants c.args.job.now =
    c.constants-count.ensures ∙ ap (λ ds. length (filter (λ (d : Decl). d.constant) ds)) c.as_slice.ensures in
    c.outcome_of.ensures
    ∙ stops_first _ _ c.args.job.now _ count c.requires.cinit c.requires.assume c.requires.init c.in_ok-cinit.cinit (c.in_ok-cinit.ensures ∙ ap (λ r. effect_in r (Constants c.constants-count.result) c.args.job.now.cinit) c.unbound-context.ensures) c.if-not-cinit.true

pub returns-then-not-assumed : goal.returns-then-not-assumed
returns-then-not-assumed c =
    let count : c.constants-count.result ≡ constants c.args.job.now =
    c.constants-count.ensures ∙ ap (λ ds. length (filter (λ (d : Decl). d.constant) ds)) c.as_slice.ensures in
    c.outcome_of-then-not-assumed.ensures ∙ ap outcome_of c.behind.ensures
    ∙ stops_second _ _ c.args.job.now _ count c.requires.cinit c.requires.assume c.requires.init c.in_ok-cinit.cinit c.in_ok-assumed.assumed
    (c.in_ok-cinit.ensures ∙ ap (λ r. effect_in r (Constants c.constants-count.result) c.args.job.now.cinit) c.unbound-context.ensures) c.if-not-cinit.false
    (c.in_ok-assumed.ensures _ c.by_value.ensures ∙ ap (λ r. effect_of (value_in r c.args.job.now.assume)) c.unbound-context.ensures) c.if-not-assumed.true

pub returns : goal.returns
returns c =
    let count : c.constants-count.result ≡ constants c.args.job.now =
    c.constants-count.ensures ∙ ap (λ ds. length (filter (λ (d : Decl). d.constant) ds)) c.as_slice.ensures in
    c.outcome_of-2.ensures ∙ ap outcome_of (c.behind-3.ensures ∙ ap (behind c.in_ok-cinit.cinit.fault) c.behind-2.ensures)
    ∙ goes_on _ _ c.args.job.now _ count c.requires.cinit c.requires.assume c.requires.init c.in_ok-cinit.cinit c.in_ok-assumed.assumed c.in_ok-init.init
    (c.in_ok-cinit.ensures ∙ ap (λ r. effect_in r (Constants c.constants-count.result) c.args.job.now.cinit) c.unbound-context.ensures) c.if-not-cinit.false
    (c.in_ok-assumed.ensures _ c.by_value.ensures ∙ ap (λ r. effect_of (value_in r c.args.job.now.assume)) c.unbound-context.ensures) c.if-not-assumed.false
    (c.in_ok-init.ensures ∙ ap (λ r. effect_in r (Variables c.constants-count.result) c.args.job.now.init) c.unbound-context.ensures)
