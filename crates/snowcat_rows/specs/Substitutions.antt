-- Substitutions of types and rows, and the most general one.
use Rattle.std.specs.Prelude.{ℕ, ◌≡◌, ◌<◌, Bool, true, List, Option, Some, None}
use Rattle.snowcat_rows.specs.Types.{Term, Slot, var, con, app, fields, none, some}

-- fields, and what follows them
pub record Row : Type 0 where
  pub at : List ℕ → Slot
  pub tail : Option ℕ

-- a type for each type variable, and a row for each row variable
pub record Sub : Type 0 where
  pub type_of : ℕ → Term
  pub row_of : ℕ → Row

abbrev pub or_else : Slot → Slot → Slot
or_else none y = y
or_else (some t) y = some t

abbrev pub tail_row : Sub → Option ℕ → Row
tail_row s None = record { at = λ n. none; tail = None }
tail_row s (Some r) = s.row_of r

abbrev mutual
  pub apply : Sub → Term → Term
  apply s (var v) = s.type_of v
  apply s (con h) = con h
  apply s (app a b) = app (apply s a) (apply s b)
  apply s (fields f k) = fields (λ n. or_else (apply_slot s (f n)) ((tail_row s k).at n)) (tail_row s k).tail

  pub apply_slot : Sub → Slot → Slot
  apply_slot s none = none
  apply_slot s (some t) = some (apply s t)

abbrev pub apply_row : Sub → Row → Row
apply_row s w = record { at = λ n. or_else (apply_slot s (w.at n)) ((tail_row s w.tail).at n); tail = (tail_row s w.tail).tail }

-- s and then r
abbrev pub then_sub : Sub → Sub → Sub
then_sub r s = record { type_of = λ v. apply r (s.type_of v); row_of = λ v. apply_row r (s.row_of v) }

abbrev pub same_sub : Sub
same_sub = record { type_of = var; row_of = λ r. record { at = λ n. none; tail = Some r } }

-- the names after which each row variable stands
abbrev pub Fronts : Type 0
Fronts = ℕ → List ℕ → Bool

abbrev pub Present : Slot → Bool → Type 0
Present none b = b ≡ true → ⊥
Present (some t) b = b ≡ true

-- each row variable of the type stands after just its names
abbrev mutual
  pub Sorted : Fronts → Term → Type 0
  Sorted l (var v) = Unit {0}
  Sorted l (con h) = Unit {0}
  Sorted l (app a b) = Sorted l a × Sorted l b
  Sorted l (fields f k) = ((n : List ℕ) → SortedSlot l (f n)) × ((r : ℕ) → k ≡ Some r → (n : List ℕ) → Present (f n) (l r n))

  pub SortedSlot : Fronts → Slot → Type 0
  SortedSlot l none = Unit {0}
  SortedSlot l (some t) = Sorted l t

-- no row that the substitution gives has a name that stands before its variable
abbrev pub Fits : ℕ → Fronts → Sub → Type 0
Fits n l s = (r : ℕ) → r < n → (name : List ℕ) → l r name ≡ true → (s.row_of r).at name ≡ none

-- t is s and then something, on the variables below n
pub record Extends (n : ℕ) (s t : Sub) : Type 0 where
  pub rest : Sub
  pub types : (v : ℕ) → v < n → t.type_of v ≡ apply rest (s.type_of v)
  pub rows : (v : ℕ) → v < n → t.row_of v ≡ apply_row rest (s.row_of v)

-- t extends s, makes a and b equal, and every substitution that does so extends t, on the variables below n
pub record MostGeneral (n : ℕ) (l : Fronts) (s : Sub) (a b : Term) (t : Sub) : Type 0 where
  pub extends : Extends n s t
  pub equal : apply t a ≡ apply t b
  pub general : (u : Sub) → Fits n l u → Extends n s u → apply u a ≡ apply u b → Extends n t u

-- nothing that extends s makes a and b equal
abbrev pub Apart : ℕ → Fronts → Sub → Term → Term → Type 0
Apart n l s a b = (u : Sub) → Fits n l u → Extends n s u → apply u a ≡ apply u b → ⊥

-- two substitutions say the same of the variables below n
pub record Agree (n : ℕ) (s t : Sub) : Type 0 where
  pub types : (v : ℕ) → v < n → s.type_of v ≡ t.type_of v
  pub rows : (v : ℕ) → v < n → s.row_of v ≡ t.row_of v

-- u, with rows for the new variables up to m, extends t
pub record Lifted (n m : ℕ) (k : Fronts) (u t : Sub) : Type 0 where
  pub to : Sub
  pub agree : Agree n u to
  pub fits : Fits m k to
  pub extends : Extends m t to

-- as MostGeneral, where n variables were issued and m are now
pub record Unified (n m : ℕ) (l k : Fronts) (s : Sub) (a b : Term) (t : Sub) : Type 0 where
  pub extends : Extends n s t
  pub equal : apply t a ≡ apply t b
  pub general : (u : Sub) → Fits n l u → Extends n s u → apply u a ≡ apply u b → Lifted n m k u t
