use Rattle.std.specs.Prelude.{◌≡◌, ℕ, ◌<◌, ◌++◌, List, ◌∷◌, [], length, take, All, Contains, slice_index_or, None}
use Rattle.sat_formula.specs.declared.lit.Lit.{Lit}
use Rattle.sat_formula.specs.Lit.{IsBelow}
use Rattle.refutation_checker.specs.Follows.{negation, IsUnit}
use Rattle.watched_search.specs.declared.entry.Entry.{Entry}
use Rattle.watched_search.specs.Trail.{lits_of}
use Rattle.cdcl_solver.specs.inner.Levels.{levels_from}

-- a literal of D other than u isn't false under T
abbrev pub IsOtherAt : List Lit → List Lit → Lit → Type 0
IsOtherAt T D u = (w : Lit) × (Contains D w × ((w ≡ u → ⊥) × (Contains T (negation w) → ⊥)))

-- before each decision, a literal of D other than u isn't false
abbrev pub HasSecond : List Lit → Lit → List Lit → List Entry → Type 0
HasSecond D u T es = (xs : List Entry) (e : Entry) (ys : List Entry) → es ≡ xs ++ e ∷ ys → e.reason ≡ None → IsOtherAt (T ++ lits_of xs) D u

-- the place of the decision that begins the level
abbrev pub start_of : List Entry → ℕ → ℕ
start_of es level = slice_index_or (levels_from 0 es) level 0

-- the clause forces u once the trail goes back before the decision of this level, and at no earlier decision
pub record IsJump (vars : ℕ) (es : List Entry) (D : List Lit) (u : Lit) (level : ℕ) : Type 0 where
  pub within : level < length (levels_from 0 es)
  pub below : All (IsBelow vars) D
  pub unit : IsUnit (lits_of (take (start_of es level) es)) D u
  pub second : HasSecond D u [] (take (start_of es level) es)
