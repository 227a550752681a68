use Rattle.std.proofs.Common.{◌≡◌, ℕ, ◌<◌, List, length, Some, sym, ◌∙◌, ap, rules, subst}
use Rattle.std.specs.Prelude.{option_copied, slice_index_or}
use Rattle.tla_meaning.specs.Executions.{last_of}
use Rattle.tla_meaning.specs.declared.expr.Expr.{Expr}
use Rattle.bounded_engine.proofs.AtStates.{at_end, has_last}
use Rattle.bounded_engine.proofs.Broken.{some_broken}
use Rattle.bounded_engine.proofs.Holding.{no_state}
use Rattle.bounded_engine.proofs.Shown.{broken_given}
use Rattle.bounded_engine.proofs.verdicts.broken.Goals as goal

pub unreachable-requires : goal.unreachable-requires
unreachable-requires c =
    has_last (Some c.args.a.now.width) c.args.a.now.job.now c.args.question.query c.args.question.level c.args.states.now no_state c.requires.ready.1
    (c.requires.shown no_state) (sym c.last.ensures ∙ ap option_copied c.in_default.is)

pub invariant-requires-clause-normal : goal.invariant-requires-clause-normal
invariant-requires-clause-normal c =
    let last : last_of c.args.states.now ≡ Some c.in-Some.state.now = sym c.last.ensures ∙ ap option_copied c.in-Some.is in
    let at = at_end (Some c.args.a.now.width) c.args.a.now.job.now c.args.question.query c.args.question.level c.args.states.now c.in-Some.state.now no_state
    c.requires.ready.1 (c.requires.shown no_state) last in
    at.now.normal

pub offset_bounds-as_slice-number : goal.offset_bounds-as_slice-number
offset_bounds-as_slice-number c =
    let last : last_of c.args.states.now ≡ Some c.in-Some.state.now = sym c.last.ensures ∙ ap option_copied c.in-Some.is in
    let at = at_end (Some c.args.a.now.width) c.args.a.now.job.now c.args.question.query c.args.question.level c.args.states.now c.in-Some.state.now no_state
    c.requires.ready.1 (c.requires.shown no_state) last in
    let there : c.in_ok-number.number < length c.args.a.now.job.now.invs =
    some_broken (Some c.args.a.now.width) c.args.a.now.job.now c.in-Some.state.now c.args.question.query c.in_ok-number.number c.requires.ready.1 at.cause
    c.in_ok-number.ensures.bound c.in_ok-number.ensures.before in
    let below : c.in_ok-number.number < length c.as_slice.result.now =
    subst (λ (es : List (List ℕ × Expr)). c.in_ok-number.number < length es) (sym c.as_slice.ensures) there in
    search rules

pub bounds-as_slice-number : goal.bounds-as_slice-number
bounds-as_slice-number c =
    let last : last_of c.args.states.now ≡ Some c.in-Some.state.now = sym c.last.ensures ∙ ap option_copied c.in-Some.is in
    let at = at_end (Some c.args.a.now.width) c.args.a.now.job.now c.args.question.query c.args.question.level c.args.states.now c.in-Some.state.now no_state
    c.requires.ready.1 (c.requires.shown no_state) last in
    let there : c.in_ok-number.number < length c.args.a.now.job.now.invs =
    some_broken (Some c.args.a.now.width) c.args.a.now.job.now c.in-Some.state.now c.args.question.query c.in_ok-number.number c.requires.ready.1 at.cause
    c.in_ok-number.ensures.bound c.in_ok-number.ensures.before in
    subst (λ (es : List (List ℕ × Expr)). c.in_ok-number.number < length es) (sym c.as_slice.ensures) there

pub returns : goal.returns
returns c =
    let last : last_of c.args.states.now ≡ Some c.in-Some.state.now = sym c.last.ensures ∙ ap option_copied c.in-Some.is in
    let at = at_end (Some c.args.a.now.width) c.args.a.now.job.now c.args.question.query c.args.question.level c.args.states.now c.in-Some.state.now no_state
    c.requires.ready.1 (c.requires.shown no_state) last in
    let there : c.in_ok-number.number < length c.args.a.now.job.now.invs =
    some_broken (Some c.args.a.now.width) c.args.a.now.job.now c.in-Some.state.now c.args.question.query c.in_ok-number.number c.requires.ready.1 at.cause
    c.in_ok-number.ensures.bound c.in_ok-number.ensures.before in
    broken_given (Some c.args.a.now.width) c.args.a.now.job.now c.args.question.level c.args.question.query c.args.states.now c.in-Some.state.now c.in_ok-number.number
    c.index-as_slice-number.result c.in_ok-name.name c.in_ok-number.outcome at there c.in_ok-number.ensures.outcome c.in_ok-number.ensures.before
    (c.in_ok-number.ensures.at c.index-as_slice-number.result there)
    (c.in_ok-name.ensures
    ∙ ap (λ (es : List (List ℕ × Expr)). (slice_index_or es c.in_ok-number.number c.index-as_slice-number.result).0) c.as_slice.ensures)
    (c.requires.ready.2 c.in-Some.state.now last)
