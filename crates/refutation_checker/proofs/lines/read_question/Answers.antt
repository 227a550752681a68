use Rattle.refutation_checker.proofs.LineTexts.{question_parts, question_uncut}
use Rattle.refutation_checker.proofs.lines.read_question.Goals as goal

pub returns-in_err-level_word : goal.returns-in_err-level_word
returns-in_err-level_word c =
    rw c.from_residual-in_err-level_word.ensures (question_uncut c.args.line.now c.in_ok-words.words.now c.in_ok-words.ensures c.in_err-level_word.ensures)

pub returns-in_err-typed : goal.returns-in_err-typed
returns-in_err-typed c =
    rw c.from_residual-in_err-typed.ensures (λ q fits is. c.in_err-typed.ensures (q.typed, q.level) fits
    (question_parts c.args.line.now _ _ _ c.in_ok-words.ensures c.in_ok-level_word.ensures q fits is).0)

pub returns-in_err-query : goal.returns-in_err-query
returns-in_err-query c =
    rw c.from_residual-in_err-query.ensures (λ q fits is. c.in_err-query.ensures q.query
    (question_parts c.args.line.now _ _ _ c.in_ok-words.ensures c.in_ok-level_word.ensures q fits is).1)
