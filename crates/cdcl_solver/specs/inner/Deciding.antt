-- Which variables have a value.
use Rattle.std.specs.Prelude.{◌≢◌, ℕ, ◌<◌, List, All, Some}
use Rattle.watched_search.specs.declared.entry.Entry.{Entry}
use Rattle.watched_search.specs.Trail.{IsPlaceOf}

-- each variable below v has an entry
abbrev pub AreDecided : List Entry → ℕ → Type 0
AreDecided es v = (w : ℕ) → w < v → (k : ℕ) × IsPlaceOf es w (Some k)

-- the variable has none
pub record IsUndecided (vars : ℕ) (es : List Entry) (v : ℕ) : Type 0 where
  pub below : v < vars
  pub none : All (λ e. e.lit.var ≢ v) es
