-- The texts of variables: a to z, a1 to z1, a2 to z2 and so on. Source: the Apalache manual, "Type System 1.2" (a type variable
-- is a small letter; a number behind it tells more of them than there are letters).
use Rattle.std.specs.Prelude.{ℕ, ◌+◌, ◌/◌, ◌%◌, ◌==◌, List, [], ◌∷◌, decimal, if◌then◌else◌}

abbrev pub letter_count : ℕ
letter_count = 26

-- the letter of that place, from a on
abbrev pub letter : ℕ → ℕ
letter n = 97 + n

-- behind the letters once through, their round
abbrev pub round_text : ℕ → List ℕ
round_text n = if n == 0 then [] else decimal n

unfoldable pub variable_text : ℕ → List ℕ
variable_text n = letter (n % letter_count) ∷ round_text (n / letter_count)
