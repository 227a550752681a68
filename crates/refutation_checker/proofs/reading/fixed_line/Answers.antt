use Rattle.std.proofs.Common.{◌≡◌, refl}
use Rattle.std.proofs.lemmas.Result.{err_from_is_err_and}
use Rattle.refutation_checker.proofs.Closed.{not_so}
use Rattle.refutation_checker.proofs.Stops.{no_line, not_this}
use Rattle.refutation_checker.proofs.reading.fixed_line.Goals as goal

pub returns-in_err-line : goal.returns-in_err-line
returns-in_err-line c =
    let p = err_from_is_err_and c.from_residual.result c.from_residual.ensures.1 in
    rw (p.1, p.2, c.in_err-line.ensures.0) (refl, no_line (λ line. line ≡ c.args.text.now) c.args.lines.now.rest c.in_err-line.ensures.1)

pub returns-else-is : goal.returns-else-is
returns-else-is c =
    rw c.fault.ensures (c.in_ok-line.ensures.1.1, not_this (λ line. line ≡ c.args.text.now) c.args.lines.now.rest c.in_ok-line.line.now c.take.new.self.rest c.in_ok-line.ensures.0 c.in_ok-line.ensures.1.0 (not_so _ c.if-is.false c.is.ensures.1))
