-- Lines and columns. They count from 1.
use Rattle.std.specs.Prelude.{ℕ, ◌+◌, ◌-◌, ◌*◌, ◌/◌, List, ◌==◌, nat_le, ◌&&◌, if◌then◌else◌, fold, count_by}
use Rattle.tla_meaning.specs.declared.place.Place.{Place}
use Rattle.tla_lexer.specs.Classes.{is_line_feed}

-- the column behind a byte at column c: a line feed starts a line, a tab goes to the next column that is one more than
-- a multiple of 8, a byte from 128 to 191 is the rest of a character, and every other byte takes one column
abbrev pub next_column : ℕ → ℕ → ℕ
next_column c b =
    if b == 10 then 1
    else (if b == 9 then 8 * ((c - 1) / 8) + 9
    else (if nat_le 128 b && nat_le b 191 then c
    else c + 1))

abbrev pub line_behind : List ℕ → ℕ
line_behind before = 1 + count_by is_line_feed before

abbrev pub column_behind : List ℕ → ℕ
column_behind before = fold next_column 1 before

-- the place of what stands behind these bytes of the file
abbrev pub place_behind : ℕ → List ℕ → Place
place_behind file before = record { file = file; line = line_behind before; col = column_behind before }
