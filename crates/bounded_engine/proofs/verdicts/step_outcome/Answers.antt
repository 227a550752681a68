use Rattle.std.proofs.Common.{◌≡◌, Some, sym, ◌∙◌, ap}
use Rattle.std.specs.Prelude.{option_copied}
use Rattle.tla_meaning.specs.Executions.{last_of, next}
use Rattle.tla_meaning.specs.declared.outcome.Outcome.{Outcome}
use Rattle.bounded_engine.proofs.AtStates.{IsGiven, at_step, if_ok_more, step_given}
use Rattle.bounded_engine.proofs.verdicts.step_outcome.Goals as goal

pub next-requires-clause-now : goal.next-requires-clause-now
next-requires-clause-now c =
    let last : last_of c.args.states.now ≡ Some c.in-Some.state.now = sym c.last.ensures ∙ ap option_copied c.in-Some.is in
    let at = at_step (Some c.args.a.now.width) c.args.a.now.job.now c.args.question.query c.args.question.level c.args.states.now c.in-Some.state.now c.args.attempt.now
    c.requires.ready.1 c.requires.shown last in
    at.now.normal

pub returns-in-Some : goal.returns-in-Some
returns-in-Some c =
    let last : last_of c.args.states.now ≡ Some c.in-Some.state.now = sym c.last.ensures ∙ ap option_copied c.in-Some.is in
    let at = at_step (Some c.args.a.now.width) c.args.a.now.job.now c.args.question.query c.args.question.level c.args.states.now c.in-Some.state.now c.args.attempt.now
    c.requires.ready.1 c.requires.shown last in
    if_ok_more c.next.result (λ (o : Outcome). o ≡ next (Some c.args.a.now.width) c.args.a.now.job.now c.in-Some.state.now c.args.attempt.now)
    (IsGiven (Some c.args.a.now.width) c.args.a.now.job.now c.args.question.level c.args.question.query c.args.states.now c.args.attempt.now) c.next.ensures
    (λ o same. step_given (Some c.args.a.now.width) c.args.a.now.job.now c.args.question.query c.args.question.level c.args.states.now c.in-Some.state.now c.args.attempt.now o at same)
