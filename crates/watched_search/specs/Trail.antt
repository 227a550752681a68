-- The trail of a search: what is true, in the order in which it became so, and where levels begin
-- (Marques-Silva and Sakallah, "GRASP: A Search Algorithm for Propositional Satisfiability", 1999).
use Rattle.std.specs.Prelude.{◌≡◌, ◌≢◌, ℕ, ◌<◌, ◌≤◌, List, length, map, filter, not, nat_lt, All, AllPairs, Contains, slice_index_or, Option, Some, None}
use Rattle.sat_formula.specs.declared.lit.Lit.{Lit}
use Rattle.sat_formula.specs.Lit.{IsBelow}
use Rattle.refutation_checker.specs.Follows.{negation}
use Rattle.watched_search.specs.declared.entry.Entry.{Entry}

-- the variables are those below `room`
pub record TrailView : Type 0 where
  pub room : ℕ
  pub entries : List Entry
  pub starts : List ℕ

abbrev pub lits_of : List Entry → List Lit
lits_of es = map (λ e. e.lit) es

-- neither the literal nor its negation is true
abbrev pub IsFree : List Lit → Lit → Type 0
IsFree T l = (Contains T l → ⊥) × (Contains T (negation l) → ⊥)

-- no variable stands twice
abbrev pub DistinctVars : List Entry → Type 0
DistinctVars es = AllPairs (λ a b. a.lit.var ≢ b.lit.var) es

-- levels begin at different ones of n entries, and the starts stand in their order
pub record AreStarts (n : ℕ) (starts : List ℕ) : Type 0 where
  pub rising : AllPairs (λ s t. s < t) starts
  pub within : All (λ s. s < n) starts

-- what holds of the entries of every search
pub record AreEntries (vars : ℕ) (es : List Entry) : Type 0 where
  pub below : All (IsBelow vars) (lits_of es)
  pub distinct : DistinctVars es
  pub counted : length es ≤ vars

-- what holds of every trail
pub record IsTrail (t : TrailView) : Type 0 where
  pub below : All (IsBelow t.room) (lits_of t.entries)
  pub distinct : DistinctVars t.entries
  pub counted : length t.entries ≤ t.room
  pub starts : AreStarts (length t.entries) t.starts

-- the entry of the variable stands here, or it has none
abbrev pub IsPlaceOf : List Entry → ℕ → Option ℕ → Type 0
IsPlaceOf es v None = All (λ e. e.lit.var ≢ v) es
IsPlaceOf es v (Some k) = (k < length es) × ((d : Entry) → (slice_index_or es k d).lit.var ≡ v)

-- the starts before this place, and those from it on
abbrev pub starts_below : ℕ → List ℕ → List ℕ
starts_below limit starts = filter (λ s. nat_lt s limit) starts

abbrev pub starts_from : ℕ → List ℕ → List ℕ
starts_from limit starts = filter (λ s. not (nat_lt s limit)) starts
