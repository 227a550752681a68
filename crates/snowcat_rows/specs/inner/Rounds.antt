-- What a round of unification finds and does.
use Rattle.std.specs.Prelude.{ℕ, ◌≡◌, ◌⊎◌, ◌+◌, List, [], ◌∷◌, ◌++◌, Option, Some}
use Rattle.snowcat_rows.specs.declared.substitution.Round.{Round}
use Rattle.snowcat_rows.specs.declared.substitution.Round.TheVariants.{Equal, Differs, More}
use Rattle.snowcat_rows.specs.Types.{Term, Slot, var, fields, none, some, mean, Beside}
use Rattle.snowcat_rows.specs.FirstDifferences.{AtOnce, Common}
use Rattle.snowcat_rows.specs.Substitutions.{Row, Sub, apply, apply_slot}
use Rattle.snowcat_rows.specs.Chains.{type_var, row_var, Binding, to_type, to_row, single, solved, Occurs, OccursSlot, OccursRow}

-- the one, where the other is none
abbrev pub only : Slot → Slot → Slot
only x none = x
only x (some t) = none

abbrev pub Is : Slot → Type 0
Is none = ⊥
Is (some t) = Unit {0}

-- the names that g has and f has not, and the new variable
abbrev pub others : (List ℕ → Slot) → (List ℕ → Slot) → ℕ → Row
others f g m = record { at = λ n. only (g n) (f n); tail = Some m }

-- no substitution makes them equal
abbrev pub Never : Term → Term → Type 0
Never x y = (s : Sub) → apply s x ≡ apply s y → ⊥

abbrev pub IsRecord : Term → Type 0
IsRecord x = (f : List ℕ → Slot) × (k : Option ℕ) × (x ≡ fields f k)

abbrev pub NotVar : Term → Type 0
NotVar x = (v : ℕ) → x ≡ var v → ⊥

-- two types that differ at once: what are no variables and not both records can never be equal
pub record Unlike (x y : Term) : Type 0 where
  pub at_once : AtOnce x y
  pub apart : NotVar x → NotVar y → (IsRecord x → IsRecord y → ⊥) → Never x y

-- x in a and y in b are to be equal where a and b are, and differ at once
pub record Differ (a b x y : Term) : Type 0 where
  pub within : (s : Sub) → apply s a ≡ apply s b → apply s x ≡ apply s y
  pub beside : Beside x y a b
  pub unlike : Unlike x y

abbrev pub SameNames : (List ℕ → Slot) → (List ℕ → Slot) → Type 0
SameNames f g = ((n : List ℕ) → Is (f n) → Is (g n)) × ((n : List ℕ) → Is (g n) → Is (f n))

-- the two differ within a field that both records have
pub record InField (f g : List ℕ → Slot) (x y : Term) : Type 0 where
  pub name : List ℕ
  pub first : Term
  pub second : Term
  pub left : f name ≡ some first
  pub right : g name ≡ some second
  pub differ : Differ first second x y

abbrev pub row_of : (List ℕ → Slot) → Option ℕ → Row
row_of f k = record { at = f; tail = k }

-- the names of one record that another lacks, and what follows
abbrev pub extra : (List ℕ → Slot) → (List ℕ → Slot) → Option ℕ → Row
extra f g k = record { at = λ n. only (f n) (g n); tail = k }

-- the names of f that g lacks, once the row variable r stands for those of g that f lacks, and the new variable m
abbrev pub extra_after : (List ℕ → Slot) → (List ℕ → Slot) → ℕ → ℕ → Row
extra_after f g r m = record { at = λ n. apply_slot (single (to_row r (others f g m))) (only (f n) (g n)); tail = Some m }

abbrev pub Covers : (List ℕ → Slot) → (List ℕ → Slot) → Type 0
Covers f g = (n : List ℕ) → Is (g n) → Is (f n)

-- g has a name that f lacks
abbrev pub Lacks : (List ℕ → Slot) → (List ℕ → Slot) → Type 0
Lacks f g = (n : List ℕ) × Is (g n) × (f n ≡ none)

-- where m variables are issued, the bindings that make x and y more alike, and how many variables are issued then
pub data Advances (x y : Term) (m : ℕ) (cs : List Binding) : List Binding → ℕ → Type 0 where
  left_type : (v : ℕ) → x ≡ var v → (Occurs (type_var v) y → ⊥) → Advances x y m cs (cs ++ to_type v y ∷ []) m
  right_type : (v : ℕ) → y ≡ var v → (Occurs (type_var v) x → ⊥) → Advances x y m cs (cs ++ to_type v x ∷ []) m
  -- y has each name of x
  left_row : (f g : List ℕ → Slot) (r : ℕ) (k : Option ℕ) → x ≡ fields f (Some r) → y ≡ fields g k → Covers g f
      → (OccursRow (row_var r) (extra g f k) → ⊥) → Advances x y m cs (cs ++ to_row r (extra g f k) ∷ []) m
  right_row : (f g : List ℕ → Slot) (k : Option ℕ) (q : ℕ) → x ≡ fields f k → y ≡ fields g (Some q) → Covers f g
      → (OccursRow (row_var q) (extra f g k) → ⊥) → Advances x y m cs (cs ++ to_row q (extra f g k) ∷ []) m
  -- each lacks names of the other
  both_rows : (f g : List ℕ → Slot) (r q : ℕ) → x ≡ fields f (Some r) → y ≡ fields g (Some q) → (r ≡ q → ⊥)
      → Lacks f g → Lacks g f → ((n : List ℕ) → OccursSlot (row_var r) (only (g n) (f n)) → ⊥) → ((n : List ℕ) → OccursSlot (row_var q) ((extra_after f g r m).at n) → ⊥)
      → Advances x y m cs (cs ++ to_row r (others f g m) ∷ to_row q (extra_after f g r m) ∷ []) (m + 1)

-- why nothing makes them equal
pub data Stuck (x y : Term) (m : ℕ) : Type 0 where
  never : Never x y → Stuck x y m
  -- a row variable would hold itself
  row_left : (f g : List ℕ → Slot) (r : ℕ) (k : Option ℕ) (n : List ℕ) (u : Term) → x ≡ fields f (Some r) → y ≡ fields g k
      → f n ≡ none → g n ≡ some u → Occurs (row_var r) u → Stuck x y m
  row_right : (f g : List ℕ → Slot) (k : Option ℕ) (q : ℕ) (n : List ℕ) (u : Term) → x ≡ fields f k → y ≡ fields g (Some q)
      → g n ≡ none → f n ≡ some u → Occurs (row_var q) u → Stuck x y m
  row_after : (f g : List ℕ → Slot) (r q : ℕ) (n : List ℕ) (u : Term) → x ≡ fields f (Some r) → y ≡ fields g (Some q)
      → g n ≡ none → f n ≡ some u → Occurs (row_var q) (apply (single (to_row r (others f g m))) u) → Stuck x y m
  -- the same row variable, or none, behind both
  same_tail : (f g : List ℕ → Slot) (k : Option ℕ) → x ≡ fields f k → y ≡ fields g k → Common f g → (x ≡ y → ⊥) → Stuck x y m

-- of two row variables: each is bound to names and the new variable
pub record BothBound (r : ℕ) (left : List ℕ → Slot) (q : ℕ) (right : List ℕ → Slot) (m : ℕ) (cs ds : List Binding) : Type 0 where
  pub free_first : (n : List ℕ) → OccursSlot (row_var r) (left n) → ⊥
  pub free_second : (n : List ℕ) → OccursSlot (row_var q) (apply_slot (single (to_row r (row_of left (Some m)))) (right n)) → ⊥
  pub added : ds ≡ cs ++ to_row r (row_of left (Some m)) ∷ to_row q (row_of (λ n. apply_slot (single (to_row r (row_of left (Some m)))) (right n)) (Some m)) ∷ []

-- or one of them would hold itself
abbrev pub NoneBound : ℕ → (List ℕ → Slot) → ℕ → (List ℕ → Slot) → ℕ → Type 0
NoneBound r left q right m =
    ((n : List ℕ) × OccursSlot (row_var r) (left n))
    ⊎ ((n : List ℕ) × OccursSlot (row_var q) (apply_slot (single (to_row r (row_of left (Some m)))) (right n)))

-- l and r are a and b with the bindings of ds behind cs put in place
pub record PutIn (cs ds : List Binding) (a b l r : Term) : Type 0 where
  pub news : List Binding
  pub added : ds ≡ cs ++ news
  pub left : l ≡ solved news a
  pub right : r ≡ solved news b

-- what one round of the search says of the types, which hold no bound variable
abbrev pub After : Round → Term → Term → ℕ → List Binding → List Binding → ℕ → Type 0
After Equal a b m cs ds p = (a ≡ b) × ((ds ≡ cs) × (p ≡ m))
After (Differs x y) a b m cs ds p = Differ a b (mean x) (mean y) × Stuck (mean x) (mean y) m
After (More l r) a b m cs ds p = (x : Term) × (y : Term) × Differ a b x y × Advances x y m cs ds p × PutIn cs ds a b (mean l) (mean r)
