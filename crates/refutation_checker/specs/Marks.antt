-- The checker's trail: the values of variables beside the list of literals that are true.
use Rattle.std.specs.Prelude.{◌≡◌, ℕ, ◌↔◌, Bool, true, false, not, List, length, Contains, slice_index_or, nat_lt, if◌then◌else◌, Option, Some, None}
use Rattle.std.specs.Ordering.{nat_cmp, is_eq}
use Rattle.std.specs.Map.{lookup}
use Rattle.sat_formula.specs.declared.lit.Lit.{Lit}
use Rattle.refutation_checker.specs.Follows.{negation}

-- values of the first variables by their numbers, and of others in pairs
pub record MarksView : Type 0 where
  pub near : List (Option Bool)
  pub far : List (ℕ × Bool)

-- the value of a variable, where it has one
unfoldable pub mark_of : MarksView → ℕ → Option Bool
mark_of m v = if nat_lt v (length m.near) then slice_index_or m.near v None else lookup (λ w. is_eq (nat_cmp v w)) m.far

-- the variable has this value now, and each other one has its own
pub record Updates (old : MarksView) (v : ℕ) (value : Option Bool) (new : MarksView) : Type 0 where
  pub here : mark_of new v ≡ value
  pub others : (w : ℕ) → (w ≡ v → ⊥) → mark_of new w ≡ mark_of old w

-- a variable's value is that by which one of its literals is true
abbrev pub AreMarks : MarksView → List Lit → Type 0
AreMarks m lits = (l : Lit) → ((mark_of m l.var ≡ Some (not l.neg)) ↔ Contains lits l)

-- true, false or neither
abbrev pub TellsValue : List Lit → Lit → Option Bool → Type 0
TellsValue lits l None = (Contains lits l → ⊥) × (Contains lits (negation l) → ⊥)
TellsValue lits l (Some true) = Contains lits l × (Contains lits (negation l) → ⊥)
TellsValue lits l (Some false) = (Contains lits l → ⊥) × Contains lits (negation l)
