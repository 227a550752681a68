-- Which names stand before which row variables, and which variables there are.
use Rattle.std.specs.Prelude.{ℕ, ◌≡◌, ◌<◌, Bool, true, List, [], ◌∷◌, Some}
use Rattle.std.specs.Coded.{×_prop, →_prop, Unit-prop, le_prop}
use mathlib.Core.HLevel.{⊥_prop}
use Rattle.snowcat_rows.specs.Types.{Term, Slot, none, some}
use Rattle.snowcat_rows.specs.Substitutions.{Row, Fronts, Sorted, SortedSlot}
use Rattle.snowcat_rows.specs.Chains.{Variable, number, Binding, to_type, to_row, key, Occurs, OccursIn, Absent, Chain}

abbrev pub Within : ℕ → Term → Type 0
Within n u = (v : Variable) → Occurs v u → number v < n

abbrev pub BindingWithin : ℕ → Binding → Type 0
BindingWithin n b = (number (key b) < n) × ((v : Variable) → OccursIn v b → number v < n)

abbrev pub AllWithin : ℕ → List Binding → Type 0
AllWithin n [] = Unit {0}
AllWithin n (b ∷ bs) = BindingWithin n b × AllWithin n bs

-- after a row in the place of r: its names are new, and what follows it stands after all
abbrev pub Follows : Slot → Bool → Bool → Type 0
Follows none x y = y ≡ x
Follows (some t) x y = (x ≡ true → ⊥) × (y ≡ true)

pub record RowSorted (l : Fronts) (r : ℕ) (w : Row) : Type 0 where
  pub slots : (n : List ℕ) → SortedSlot l (w.at n)
  pub follows : (q : ℕ) → w.tail ≡ Some q → (n : List ℕ) → Follows (w.at n) (l r n) (l q n)

abbrev pub BindingSorted : Fronts → Binding → Type 0
BindingSorted l (to_type v t) = Sorted l t
BindingSorted l (to_row r w) = RowSorted l r w

abbrev pub AllSorted : Fronts → List Binding → Type 0
AllSorted l [] = Unit {0}
AllSorted l (b ∷ bs) = BindingSorted l b × AllSorted l bs

-- these are propositions
pub Absent-prop : (v : Variable) (bs : List Binding) → IsProp (Absent v bs)
Absent-prop v [] = Unit-prop
Absent-prop v (b ∷ bs) = ×_prop (→_prop ⊥_prop) (×_prop (→_prop ⊥_prop) (Absent-prop v bs))

pub Chain-prop : (bs : List Binding) → IsProp (Chain bs)
Chain-prop [] = Unit-prop
Chain-prop (b ∷ bs) = ×_prop (→_prop ⊥_prop) (×_prop (Absent-prop (key b) bs) (Chain-prop bs))

below_prop : (n : ℕ) (b : Binding) → IsProp ((v : Variable) → OccursIn v b → number v < n)
below_prop n b = hlevel (le_prop)

pub AllWithin-prop : (n : ℕ) (bs : List Binding) → IsProp (AllWithin n bs)
AllWithin-prop n [] = Unit-prop
AllWithin-prop n (b ∷ bs) = ×_prop (×_prop le_prop (below_prop n b)) (AllWithin-prop n bs)
