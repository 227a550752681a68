use Rattle.refutation_checker.proofs.LineTexts.{header_parts, header_uncut}
use Rattle.refutation_checker.proofs.lines.read_header.Goals as goal

pub returns-in_err-vars_word : goal.returns-in_err-vars_word
returns-in_err-vars_word c =
    rw c.from_residual-in_err-vars_word.ensures (header_uncut c.args.line.now c.in_ok-words.words.now c.in_ok-words.ensures c.in_err-vars_word.ensures)

pub returns-in_err-vars : goal.returns-in_err-vars
returns-in_err-vars c =
    rw c.from_residual-in_err-vars.ensures (λ h fits is. c.in_err-vars.ensures h.vars fits.0
    (header_parts c.args.line.now _ _ _ c.in_ok-words.ensures c.in_ok-vars_word.ensures h fits is).0)

pub returns-in_err-clauses : goal.returns-in_err-clauses
returns-in_err-clauses c =
    rw c.from_residual-in_err-clauses.ensures (λ h fits is. c.in_err-clauses.ensures h.clauses fits.1
    (header_parts c.args.line.now _ _ _ c.in_ok-words.ensures c.in_ok-vars_word.ensures h fits is).1)
