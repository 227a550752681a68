-- Which clauses name a literal, and what is left to look at while the trail's literals are gone through.
use Rattle.std.specs.Prelude.{◌≡◌, ℕ, ◌+◌, ◌*◌, ◌<◌, ◌≤◌, ◌++◌, List, [], length, Contains, MatchOption, Option, slice_index_or, if◌then◌else◌}
use Rattle.sat_formula.specs.declared.lit.Lit.{Lit}
use Rattle.refutation_checker.specs.Follows.{IsFalse, IsUnit}
use Rattle.watched_search.specs.declared.entry.Entry.{Entry}
use Rattle.watched_search.specs.Trail.{TrailView, lits_of}
use Rattle.watched_search.specs.Searching.{IsFalseAt}
use Rattle.cdcl_solver.specs.inner.Chain.{Chain}
use Rattle.cdcl_solver.specs.inner.Weight.{weight}

-- two numbers for each variable
abbrev pub code_of : Lit → ℕ
code_of l = 2 * l.var + (if l.neg then 1 else 0)

-- the places of the clauses that are listed for a literal
abbrev pub places_at : List (List ℕ) → Lit → List ℕ
places_at lists l = slice_index_or lists (code_of l) []

-- there is a list for each literal, and each clause stands in the list of each of its own
pub record IsIndex (room : ℕ) (lists : List (List ℕ)) (known : List (List Lit)) : Type 0 where
  pub size : length lists ≡ 2 * room
  pub occurs : (k : ℕ) (l : Lit) → k < length known → Contains (slice_index_or known k []) l → Contains (places_at lists l) k

-- a clause at this place is put into the list of each of its literals
pub record Adds (old new : List (List ℕ)) (lits : List Lit) (place : ℕ) : Type 0 where
  pub size : length new ≡ length old
  pub kept : (l : Lit) (k : ℕ) → Contains (places_at old l) k → Contains (places_at new l) k
  pub added : (l : Lit) → Contains lits l → Contains (places_at new l) place

-- under what was looked at the clause isn't false, and where it is a unit its literal is true by now
pub record Kept (done T c : List Lit) : Type 0 where
  pub not_false : IsFalse done c → ⊥
  pub unit : (u : Lit) → IsUnit done c u → Contains T u

abbrev pub AllKept : List (List Lit) → List Lit → List Lit → Type 0
AllKept known done T = (k : ℕ) → k < length known → Kept done T (slice_index_or known k [])

-- the trail went on over the clauses at these places, until one is false
pub record IsLooked (known : List (List Lit)) (old new : TrailView) (Places : ℕ → Type 0) (conflict : Option ℕ) : Type 0 where
  pub chain : Chain known [] new.entries
  pub room : new.room ≡ old.room
  pub weight : weight old.room new.entries ≤ weight old.room old.entries
  pub grown : (more : List Entry) × (new.entries ≡ old.entries ++ more)
  pub found : MatchOption conflict
      ((k : ℕ) → Places k → k < length known → Kept (lits_of old.entries) (lits_of new.entries) (slice_index_or known k []))
      (λ h. IsFalseAt known (lits_of new.entries) h)
