use Rattle.std.proofs.Common.{refl}
use Rattle.std.proofs.lemmas.Result.{err_from_is_err_and}
use Rattle.std.proofs.lemmas.List.Elements.{All-push}
use Rattle.refutation_checker.specs.Certificate.{step_text, end_text, IsStep, EndsRightly}
use Rattle.refutation_checker.specs.inner.Reading.{Spells, SpellsNone}
use Rattle.refutation_checker.specs.inner.Sections.{IsLineOf}
use Rattle.refutation_checker.proofs.Stops.{no_line, not_this, none_spelled, steps_stop, takes_push_line}
use Rattle.refutation_checker.proofs.reading.steps.Goals as goal

pub returns-in_err-line : goal.returns-in_err-line
returns-in_err-line c =
    let p = err_from_is_err_and c.from_residual.result c.from_residual.ensures.1 in
    rw (p.1, p.2, c.in_err-line.ensures.0)
    (steps_stop c.args.vars c.args.lines.now c.steps.lines c.steps.steps.items c.steps.invariant.fit c.steps.invariant.taken _ refl
    (no_line (IsLineOf step_text (IsStep c.args.vars)) c.steps.lines.rest c.in_err-line.ensures.1)
    (no_line (IsLineOf end_text (λ o. EndsRightly o c.steps.steps.items)) c.steps.lines.rest c.in_err-line.ensures.1))

pub steps-preserved : goal.steps-preserved
steps-preserved c =
    let read : Spells step_text (IsStep c.args.vars) c.in_ok-line.line.now c.in-Some-2.step = rw c.in-Some-2.is at c.in_ok-step.ensures in
    rw c.in_ok-push-in-Some-2.ensures.items (record {
      fit = All-push (IsStep c.args.vars) c.steps.steps.items c.in-Some-2.step c.steps.invariant.fit read.0;
      taken = takes_push_line step_text c.args.lines.now c.steps.lines c.take.new.self c.steps.steps.items c.in-Some-2.step c.in_ok-line.line.now c.steps.invariant.taken c.in_ok-line.ensures.0 c.in_ok-line.ensures.1.1 read.1;
    })

pub returns-in-None : goal.returns-in-None
returns-in-None c =
    let none : SpellsNone step_text (IsStep c.args.vars) c.in_ok-line.line.now = rw c.in-None.is at c.in_ok-step.ensures in
    let no_end : SpellsNone end_text (λ o. EndsRightly o c.steps.steps.items) c.in_ok-line.line.now = rw c.deref.ensures.value at c.in_default.ensures in
    rw c.fault.ensures
    (steps_stop c.args.vars c.args.lines.now c.steps.lines c.steps.steps.items c.steps.invariant.fit c.steps.invariant.taken _ c.in_ok-line.ensures.1.1
    (not_this (IsLineOf step_text (IsStep c.args.vars)) c.steps.lines.rest c.in_ok-line.line.now c.take.new.self.rest c.in_ok-line.ensures.0 c.in_ok-line.ensures.1.0 (none_spelled step_text (IsStep c.args.vars) c.in_ok-line.line.now none))
    (not_this (IsLineOf end_text (λ o. EndsRightly o c.steps.steps.items)) c.steps.lines.rest c.in_ok-line.line.now c.take.new.self.rest c.in_ok-line.ensures.0 c.in_ok-line.ensures.1.0 (none_spelled end_text (λ o. EndsRightly o c.steps.steps.items) c.in_ok-line.line.now no_end)))
