-- Where two types differ first.
use Rattle.std.specs.Prelude.{ℕ, zero, suc, ◌≡◌, List, Option}
use Rattle.snowcat_rows.specs.Types.{Head, Term, Slot, con, app, fields, some, TupHead, OperHead}

-- the two records agree where both have a name
abbrev pub Common : (List ℕ → Slot) → (List ℕ → Slot) → Type 0
Common f g = (n : List ℕ) (x y : Term) → f n ≡ some x → g n ≡ some y → x ≡ y

-- how many types stand in the row
abbrev pub items_in : Term → ℕ
items_in (app x rest) = suc (items_in rest)
items_in t = zero

-- whether two types of one form have parts at the same places: two tuples with as many items, two operators with as many
-- arguments, and sets, sequences and functions
abbrev pub HaveSamePlaces : Head → Term → Term → Type 0
HaveSamePlaces TupHead a b = items_in a ≡ items_in b
HaveSamePlaces OperHead (app a x) (app b y) = items_in a ≡ items_in b
HaveSamePlaces h a b = Unit {0}

-- x and y differ, and not within parts that stand at one place in both
pub record AtOnce (x y : Term) : Type 0 where
  pub unequal : x ≡ y → ⊥
  pub forms : (h : Head) (a b : Term) → x ≡ app (con h) a → y ≡ app (con h) b → HaveSamePlaces h a b → ⊥
  pub records : (f g : List ℕ → Slot) (k j : Option ℕ) → x ≡ fields f k → y ≡ fields g j → Common f g
