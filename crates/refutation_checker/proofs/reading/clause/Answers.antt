use Rattle.std.proofs.Common.{All, refl}
use Rattle.std.proofs.lemmas.Result.{err_from_is_err_and}
use Rattle.sat_formula.specs.Lit.{IsBelow}
use Rattle.refutation_checker.specs.Certificate.{clause_text}
use Rattle.refutation_checker.specs.inner.Sections.{IsLineOf}
use Rattle.refutation_checker.specs.inner.Reading.{SpellsNone}
use Rattle.refutation_checker.proofs.Stops.{no_line, not_this, none_spelled}
use Rattle.refutation_checker.proofs.reading.clause.Goals as goal

pub returns-in_err-line : goal.returns-in_err-line
returns-in_err-line c =
    let p = err_from_is_err_and c.from_residual.result c.from_residual.ensures.1 in
    rw (p.1, p.2, c.in_err-line.ensures.0) (refl, no_line (IsLineOf clause_text (All (IsBelow c.args.vars))) c.args.lines.now.rest c.in_err-line.ensures.1)

pub returns-in-None : goal.returns-in-None
returns-in-None c =
    let none : SpellsNone clause_text (All (IsBelow c.args.vars)) c.in_ok-line.line.now = rw c.in-None.is at c.in_ok-c.ensures in
    rw c.fault.ensures (c.in_ok-line.ensures.1.1, not_this (IsLineOf clause_text (All (IsBelow c.args.vars))) c.args.lines.now.rest c.in_ok-line.line.now c.take.new.self.rest c.in_ok-line.ensures.0 c.in_ok-line.ensures.1.0 (none_spelled clause_text (All (IsBelow c.args.vars)) c.in_ok-line.line.now none))
