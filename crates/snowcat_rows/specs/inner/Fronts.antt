-- Row variables that were read, beside the fronts of a text.
use Rattle.std.specs.Prelude.{ℕ, ◌≡◌, List, [], ◌∷◌}
use Rattle.snowcat_rows.specs.TypeTexts.{Fronts, is_among}
use Rattle.snowcat_rows.specs.inner.Machine.{Rows}

-- each stands after the names that the fronts say
abbrev pub Agrees : Fronts → Rows → Type 0
Agrees l [] = Unit {0}
Agrees l (q ∷ qs) = ((n : List ℕ) → l q.0 n ≡ is_among n q.1) × Agrees l qs
