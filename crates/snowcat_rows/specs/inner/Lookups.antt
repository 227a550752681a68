-- Each variable looked up once in a list of bindings.
use Rattle.std.specs.Prelude.{ℕ, ◌==◌, List, [], ◌∷◌, if◌then◌else◌}
use Rattle.snowcat_rows.specs.Types.{Term, var}
use Rattle.snowcat_rows.specs.Substitutions.{Row, Sub, same_sub}
use Rattle.snowcat_rows.specs.Chains.{Binding, to_type, to_row}

-- what the first binding of a variable gives it; a variable that has none stands for itself
abbrev pub type_at : List Binding → ℕ → Term
type_at [] v = var v
type_at (to_type w t ∷ bs) v = if v == w then t else type_at bs v
type_at (to_row r y ∷ bs) v = type_at bs v

abbrev pub row_at : List Binding → ℕ → Row
row_at [] r = same_sub.row_of r
row_at (to_type w t ∷ bs) r = row_at bs r
row_at (to_row q y ∷ bs) r = if r == q then y else row_at bs r

-- each variable looked up once
abbrev pub looked : List Binding → Sub
looked bs = record { type_of = type_at bs; row_of = row_at bs }
