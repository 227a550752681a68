use Rattle.std.proofs.Common.{◌≡◌}
use Rattle.std.specs.Prelude.{codes}
use Rattle.std.proofs.lemmas.Result.{err_from_is_err_and}
use Rattle.refutation_checker.specs.inner.Lines.{IsHeader, IsQuestion, header_line, question_line}
use Rattle.refutation_checker.specs.inner.Sections.{IsLineOf, StopsAtOnce, StopsInClauses, StopsInSection, StopsInSteps}
use Rattle.refutation_checker.proofs.Stops.{AtLine-weaker}
use Rattle.refutation_checker.proofs.SectionStops.{question_stops, header_stops, clauses_stops, log_stops, steps_stops, section_made}
use Rattle.refutation_checker.proofs.reading.section.Goals as goal

pub returns-in_err-question : goal.returns-in_err-question
returns-in_err-question c =
    let p = err_from_is_err_and c.from_residual.result c.from_residual.ensures.1 in
    rw (p.1, p.2)
    (AtLine-weaker c.in_err-question.field-0.0 (StopsAtOnce (IsLineOf question_line IsQuestion) c.args.lines.now) (StopsInSection c.args.lines.now)
    (question_stops c.args.lines.now) c.in_err-question.ensures)

pub returns-in_err-header : goal.returns-in_err-header
returns-in_err-header c =
    let p = err_from_is_err_and c.from_residual-in_err-header.result c.from_residual-in_err-header.ensures.1 in
    rw (p.1, p.2)
    (AtLine-weaker c.in_err-header.field-0.0 (StopsAtOnce (IsLineOf header_line IsHeader) c.question.new.lines) (StopsInSection c.args.lines.now)
    (λ n stop. header_stops c.args.lines.now c.question.new.lines n c.in_ok-question.question c.in_ok-question.ensures.0 c.in_ok-question.ensures.1 stop) c.in_err-header.ensures)

pub returns-in_err-clauses : goal.returns-in_err-clauses
returns-in_err-clauses c =
    let p = err_from_is_err_and c.from_residual-in_err-clauses.result c.from_residual-in_err-clauses.ensures.1 in
    rw (p.1, p.2)
    (AtLine-weaker c.in_err-clauses.field-0.0 (StopsInClauses c.in_ok-header.header.vars c.in_ok-header.header.clauses c.header.new.lines) (StopsInSection c.args.lines.now)
    (λ n stop. clauses_stops c.args.lines.now c.question.new.lines c.header.new.lines n c.in_ok-question.question c.in_ok-header.header c.in_ok-question.ensures.0 c.in_ok-header.ensures.0 c.in_ok-question.ensures.1 c.in_ok-header.ensures.1 stop) c.in_err-clauses.ensures)

pub returns-in_err-fixed_line : goal.returns-in_err-fixed_line
returns-in_err-fixed_line c =
    let p = err_from_is_err_and c.from_residual-in_err-fixed_line.result c.from_residual-in_err-fixed_line.ensures.1 in
    rw (p.1, p.2)
    (AtLine-weaker c.in_err-fixed_line.field-0.0 (StopsAtOnce (λ line. line ≡ codes "log") c.clauses.new.lines) (StopsInSection c.args.lines.now)
    (λ n stop. log_stops c.args.lines.now c.question.new.lines c.header.new.lines c.clauses.new.lines n c.in_ok-question.question c.in_ok-header.header c.in_ok-clauses.clauses c.in_ok-question.ensures.0 c.in_ok-header.ensures.0 c.in_ok-clauses.ensures.0 c.in_ok-clauses.ensures.1.0 c.in_ok-question.ensures.1 c.in_ok-header.ensures.1 c.in_ok-clauses.ensures.1.1 stop) c.in_err-fixed_line.ensures)

pub returns-in_err-steps : goal.returns-in_err-steps
returns-in_err-steps c =
    let p = err_from_is_err_and c.from_residual-in_err-steps.result c.from_residual-in_err-steps.ensures.1 in
    rw (p.1, p.2)
    (AtLine-weaker c.in_err-steps.field-0.0 (StopsInSteps c.in_ok-header.header.vars c.fixed_line.new.lines) (StopsInSection c.args.lines.now)
    (λ n stop. steps_stops c.args.lines.now c.question.new.lines c.header.new.lines c.clauses.new.lines c.fixed_line.new.lines n c.in_ok-question.question c.in_ok-header.header c.in_ok-clauses.clauses c.in_ok-question.ensures.0 c.in_ok-header.ensures.0 c.in_ok-clauses.ensures.0 c.in_ok-clauses.ensures.1.0 c.in_ok-question.ensures.1 c.in_ok-header.ensures.1 c.in_ok-clauses.ensures.1.1 c.in_ok-fixed_line.ensures stop) c.in_err-steps.ensures)

pub returns : goal.returns
returns c =
    rw c.from_vec.ensures
    (section_made c.args.lines.now c.question.new.lines c.header.new.lines c.clauses.new.lines c.fixed_line.new.lines c.steps.new.lines c.in_ok-question.question c.in_ok-header.header c.in_ok-clauses.clauses c.in_ok-steps.steps.items c.in_ok-steps.is_open
    c.in_ok-question.ensures.0 c.in_ok-header.ensures.0 c.in_ok-clauses.ensures.0 c.in_ok-clauses.ensures.1.0 c.in_ok-steps.ensures.0 c.in_ok-steps.ensures.1.0 c.in_ok-question.ensures.1 c.in_ok-header.ensures.1 c.in_ok-clauses.ensures.1.1 c.in_ok-fixed_line.ensures c.in_ok-steps.ensures.1.1)
