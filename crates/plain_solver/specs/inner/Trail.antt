-- Places of the trail, and variables without a value.
use Rattle.std.specs.Prelude.{◌≡◌, ℕ, ◌+◌, ◌^◌, ◌<◌, ◌≤◌, ◌⊎◌, Bool, List, [], length, Contains, slice_index_or, Option, Some, None}
use Rattle.sat_formula.specs.declared.lit.Lit.{Lit}
use Rattle.refutation_checker.specs.Follows.{negation}
use Rattle.watched_search.specs.declared.entry.Entry.{Entry}
use Rattle.watched_search.specs.Trail.{TrailView, IsFree}
use Rattle.cdcl_solver.specs.inner.Chain.{IsLastDecision, decisions}

-- a variable without value, or none where each has one
abbrev pub IsFirstFree : ℕ → List Lit → Option ℕ → Type 0
IsFirstFree room T None = (l : Lit) → l.var < room → Contains T l ⊎ Contains T (negation l)
IsFirstFree room T (Some v) = (v < room) × ((n : Bool) → IsFree T (record { var = v; neg = n }))

-- the literal stands at this place
pub record StandsAt (t : TrailView) (k : ℕ) (l : Lit) : Type 0 where
  pub place : k < length t.entries
  pub fits : k + 1 < 2 ^ 64
  pub room : length t.entries ≤ t.room
  pub below : l.var < t.room
  pub same : (d : Entry) → (slice_index_or t.entries k d).lit ≡ l

-- the literal at this place, if there is one
abbrev pub IsLitAt : TrailView → ℕ → Option Lit → Type 0
IsLitAt t k None = length t.entries ≤ k
IsLitAt t k (Some l) = StandsAt t k l

-- the place of the last decision, if there is one
abbrev pub IsLastOf : List Entry → Option ℕ → Type 0
IsLastOf es None = decisions es ≡ []
IsLastOf es (Some k) = IsLastDecision es k
