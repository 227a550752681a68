use Rattle.std.proofs.Common.{◌≡◌, arith, subst}
use Rattle.std.specs.Prelude.{◌==◌}
use Rattle.std.proofs.lemmas.Bool.{ne_eqb}
use Rattle.tla_lexer.specs.Classes.{is_digit, BeginsWith}
use Rattle.tla_lexer.proofs.Fronts.{StopsAt-drop, StopsAt-end}
use Rattle.tla_lexer.proofs.Steps.{step_found, no_digit_no_step, no_end_no_step}
use Rattle.tla_lexer.proofs.longest.step_length.Goals as goal
use Rattle.tla_lexer.proofs.longest.step_length.Goals.{else-digits-gt0-via-then-digits-gt0+then-digits-bytes+else-bytes-digits-eq62, else-digits-gt0-via-then-digits-gt0+else-digits-bytes, else-digits-gt0-via-else-digits-gt0}

pub returns-else-digits-gt0-clause-none : goal.returns-else-digits-gt0-clause-none
returns-else-digits-gt0-clause-none c =
    let bytes = c.args.bytes.now in
    let run = c.run_length-digits.ensures in
    elim c.else-digits-gt0.branch [
      | else-digits-gt0-via-then-digits-gt0+then-digits-bytes+else-bytes-digits-eq62 w ↦
          no_end_no_step bytes _ run (StopsAt-drop (λ b. b == 62) bytes _ 0 w.if-digits-bytes.true (ne_eqb _ 62 w.if-bytes-digits-eq62.false))
      | else-digits-gt0-via-then-digits-gt0+else-digits-bytes w ↦ no_end_no_step bytes _ run (StopsAt-end (λ b. b == 62) bytes _ w.if-digits-bytes.false)
      | else-digits-gt0-via-else-digits-gt0 w ↦
          (let none : c.run_length-digits.result ≡ 0 = omega arith in
          no_digit_no_step bytes (subst (BeginsWith is_digit bytes) none run))
    ]

pub returns-then-bytes-digits-eq62-clause-found : goal.returns-then-bytes-digits-eq62-clause-found
returns-then-bytes-digits-eq62-clause-found c =
    step_found c.args.bytes.now _ c.run_length-digits.ensures c.if-digits-gt0.true c.if-digits-bytes.true c.if-bytes-digits-eq62.true
