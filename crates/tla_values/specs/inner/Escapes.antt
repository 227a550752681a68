-- Bytes between quotes, read back.
use Rattle.std.specs.Prelude.{ℕ, List, [], ◌∷◌, ◌==◌, if◌then◌else◌}

-- the byte that a letter behind a backslash stands for
abbrev pub letter : ℕ → ℕ
letter c = if c == 116 then 9 else (if c == 110 then 10 else (if c == 102 then 12 else (if c == 114 then 13 else c)))

-- the byte that stands in front, with its backslash or without, and what stands behind it
abbrev pub decode : List ℕ → ℕ × List ℕ
decode [] = (0, [])
decode (b ∷ []) = (b, [])
decode (b ∷ c ∷ bs) = if b == 92 then (letter c, bs) else (b, c ∷ bs)
