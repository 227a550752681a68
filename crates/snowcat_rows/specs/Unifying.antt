-- What the calls of unification say.
use Rattle.std.specs.Prelude.{ℕ, ◌+◌, ◌≡◌, ◌<◌, ◌≤◌, ◌⊎◌, ◌++◌, [], ◌∷◌, true, List, Some}
use Rattle.snowcat_rows.specs.declared.substitution.UnifyFault.{UnifyFault}
use Rattle.snowcat_rows.specs.declared.substitution.UnifyFault.TheVariants.{Clash, Memory}
use Rattle.snowcat_rows.specs.Types.{Term, some, mean, Beside}
use Rattle.snowcat_rows.specs.FirstDifferences.{AtOnce}
use Rattle.snowcat_rows.specs.Substitutions.{Row, Sub, apply, Fronts, Fits, Sorted, Unified, Apart}
use Rattle.snowcat_rows.specs.Chains.{Binding, to_type, to_row, solved, sub_of}
use Rattle.snowcat_rows.specs.FieldNames.{names_differ}
use Rattle.snowcat_rows.specs.Sorting.{AllSorted}

abbrev pub Same : ℕ → Fronts → Fronts → Type 0
Same n l k = (v : ℕ) → v < n → (x : List ℕ) → k v x ≡ l v x

-- the row variable r is bound to the row w
abbrev pub IsBound : ℕ → Row → List Binding → Type 0
IsBound r w [] = ⊥
IsBound r w (to_type v t ∷ bs) = IsBound r w bs
IsBound r w (to_row q z ∷ bs) = ((r ≡ q) × (w ≡ z)) ⊎ IsBound r w bs

-- v follows the names of the row, and there is one
abbrev pub Follows : ℕ → Row → Type 0
Follows v w = ((n : List ℕ) × (t : Term) × (w.at n ≡ some t)) × (w.tail ≡ Some v)

-- no name stands in both rows
abbrev pub Disjoint : Row → Row → Type 0
Disjoint w z = (n : List ℕ) (t u : Term) → w.at n ≡ some t → z.at n ≡ some u → ⊥

-- v ends the rows of two variables, each with names that the other lacks: so neither could stand for the other
abbrev pub IsNeeded : List Binding → ℕ → Type 0
IsNeeded bs v =
    (r q : ℕ) × (w z : Row) × (r ≡ q → ⊥) × (IsBound r w bs × IsBound q z bs) × (Follows v w × Follows v z) × Disjoint w z

-- the new bindings are the most general substitution that extends the old one and makes a and b equal, where n variables
-- were issued and p are now
pub record Made (n p : ℕ) (l : Fronts) (bs ds : List Binding) (a b : Term) : Type 0 where
  -- which names stand before which row variable now
  pub fronts : Fronts
  pub same : Same n l fronts
  pub sorted : AllSorted fronts ds
  pub unified : Unified n p l fronts (sub_of bs) a b (sub_of ds)
  -- each new variable ends two rows, each with names that the other lacks
  pub needed : (v : ℕ) → n ≤ v → v < p → IsNeeded ds v

abbrev pub IsMade : ℕ → ℕ → List Binding → List Binding → Term → Term → Type 0
IsMade n p bs ds a b = (l : Fronts) → AllSorted l bs → Sorted l a → Sorted l b → Made n p l bs ds a b

-- where a and b are equal, the bindings cs follow from bs: two parts that stand at one place are made equal in the most
-- general way, with at most one new variable, and so on
pub data Follow (n : ℕ) (l : Fronts) (bs : List Binding) (a b : Term) : ℕ → Fronts → List Binding → Type 0 where
  given : Follow n l bs a b n l bs
  and_then : (m p : ℕ) (k : Fronts) (cs ds : List Binding) (x y : Term) → Follow n l bs a b m k cs
      → Beside x y (solved cs a) (solved cs b) → p ≤ m + 1 → (h : Made m p k [] ds x y)
      → Follow n l bs a b p h.fronts (cs ++ ds)

-- no extension makes a and b equal; x and y stand at one place of what a and b are under bindings that follow, differ at
-- once, and no substitution makes x and y equal that gives no row variable a name which stands before it
pub record Unmade (n : ℕ) (l : Fronts) (bs : List Binding) (a b x y : Term) : Type 0 where
  pub apart : Apart n l (sub_of bs) a b
  pub issued : ℕ
  pub fronts : Fronts
  pub reached : List Binding
  pub follow : Follow n l bs a b issued fronts reached
  pub beside : Beside x y (solved reached a) (solved reached b)
  pub at_once : AtOnce x y
  pub never : (s : Sub) → Fits issued fronts s → apply s x ≡ apply s y → ⊥

abbrev pub IsRefused : UnifyFault → ℕ → List Binding → Term → Term → Type 0
IsRefused (Clash x y) n bs a b = (l : Fronts) → AllSorted l bs → Sorted l a → Sorted l b → Unmade n l bs a b (mean x) (mean y)
IsRefused (Memory e) n bs a b = Unit {0}

-- in the records of two types that clash the names of the fields differ
abbrev pub HasNames : UnifyFault → Type 0
HasNames (Clash x y) = (names_differ x ≡ true) × (names_differ y ≡ true)
HasNames (Memory e) = Unit {0}
