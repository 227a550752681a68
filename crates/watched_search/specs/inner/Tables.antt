-- The tables of the trail by variable and by literal.
use Rattle.std.specs.Prelude.{◌≡◌, ℕ, ◌+◌, ◌*◌, ◌<◌, ◌↔◌, Bool, true, false, not, List, length, All, Contains, slice_index_or, count_by, is_none, Option, Some, None}
use Rattle.sat_formula.specs.declared.lit.Lit.{Lit}
use Rattle.sat_formula.specs.Lit.{IsBelow}
use Rattle.watched_search.specs.declared.entry.Entry.{Entry}
use Rattle.watched_search.specs.Codes.{code}
use Rattle.watched_search.specs.Trail.{lits_of, DistinctVars}

-- a variable's mark is its value, where one of its literals is true
pub record Marks (marks : List (Option Bool)) (lits : List Lit) : Type 0 where
  pub agree : (l : Lit) → l.var < length marks → ((slice_index_or marks l.var None ≡ Some (not l.neg)) ↔ Contains lits l)
  pub within : All (IsBelow (length marks)) lits

-- the marks are those of the entries, whose variables differ, and the others are without one
pub record Marked (marks : List (Option Bool)) (es : List Entry) : Type 0 where
  pub agree : Marks marks (lits_of es)
  pub distinct : DistinctVars es
  pub counted : length es + count_by (λ m. is_none m) marks ≡ length marks

-- the place of each entry, by its variable
abbrev pub Placed : List ℕ → List Entry → Type 0
Placed places es = (k : ℕ) → k < length es → (d : Entry) → slice_index_or places (slice_index_or es k d).lit.var 0 ≡ k

-- the tables by variable are those of the entries
pub record Tabled (marks : List (Option Bool)) (places : List ℕ) (es : List Entry) : Type 0 where
  pub marked : Marked marks es
  pub placed : Placed places es
  pub sized : length places ≡ length marks

-- the place of a literal's code tells whether it is true
pub record Truths (room : ℕ) (truths : List Bool) (lits : List Lit) : Type 0 where
  pub sized : length truths ≡ 2 * room
  pub told : (l : Lit) → l.var < room → ((slice_index_or truths (code l) false ≡ true) ↔ Contains lits l)
