-- The values that the readers of single lines answer, as lines.
use Rattle.std.specs.Prelude.{◌≡◌, ℕ, ◌<◌, ◌^◌, Bool, IsTrue, List}
use Rattle.refutation_checker.specs.declared.lines.Question.{Question}
use Rattle.refutation_checker.specs.declared.lines.Header.{Header}
use Rattle.refutation_checker.specs.Certificate.{header_text, level_text, question_text}

abbrev pub level_word : Bool × ℕ → List ℕ
level_word p = level_text p.0 p.1

-- a level that is written `typed` is 0
abbrev pub IsLevel : Bool × ℕ → Type 0
IsLevel p = (p.1 < 2 ^ 32) × (IsTrue p.0 → p.1 ≡ 0)

abbrev pub question_line : Question → List ℕ
question_line q = question_text q.typed q.level q.query

abbrev pub IsQuestion : Question → Type 0
IsQuestion q = IsLevel (q.typed, q.level)

abbrev pub header_line : Header → List ℕ
header_line h = header_text h.vars h.clauses

abbrev pub IsHeader : Header → Type 0
IsHeader h = (h.vars < 2 ^ 31) × (h.clauses < 2 ^ 63)
