-- Bindings of variables, one after the other.
use Rattle.std.specs.Prelude.{ℕ, ◌≡◌, ◌⊎◌, ◌==◌, List, [], ◌∷◌, Option, Some, if◌then◌else◌}
use Rattle.snowcat_rows.specs.Types.{Term, Slot, var, con, app, fields, none, some}
use Rattle.snowcat_rows.specs.Substitutions.{Row, Sub, apply, apply_row, then_sub, same_sub}

-- a variable stands for a type or a row
pub data Binding : Type 0 where
  to_type : ℕ → Term → Binding
  to_row : ℕ → Row → Binding

abbrev pub single : Binding → Sub
single (to_type v t) = record { type_of = λ w. if w == v then t else var w; row_of = same_sub.row_of }
single (to_row r w) = record { type_of = var; row_of = λ q. if q == r then w else same_sub.row_of q }

abbrev pub solved : List Binding → Term → Term
solved [] u = u
solved (b ∷ bs) u = solved bs (apply (single b) u)

abbrev pub sub_of : List Binding → Sub
sub_of [] = same_sub
sub_of (b ∷ bs) = then_sub (sub_of bs) (single b)

-- variables of types and of rows; a number may be that of both
pub data Variable : Type 0 where
  type_var : ℕ → Variable
  row_var : ℕ → Variable

abbrev pub number : Variable → ℕ
number (type_var v) = v
number (row_var v) = v

abbrev pub Stands : Variable → ℕ → Type 0
Stands (type_var v) w = v ≡ w
Stands (row_var v) w = ⊥

abbrev pub Ends : Variable → Option ℕ → Type 0
Ends (type_var v) k = ⊥
Ends (row_var v) k = k ≡ Some v

abbrev mutual
  pub Occurs : Variable → Term → Type 0
  Occurs v (var w) = Stands v w
  Occurs v (con h) = ⊥
  Occurs v (app a b) = Occurs v a ⊎ Occurs v b
  Occurs v (fields f k) = ((n : List ℕ) × OccursSlot v (f n)) ⊎ Ends v k

  pub OccursSlot : Variable → Slot → Type 0
  OccursSlot v none = ⊥
  OccursSlot v (some t) = Occurs v t

abbrev pub OccursRow : Variable → Row → Type 0
OccursRow v w = ((n : List ℕ) × OccursSlot v (w.at n)) ⊎ Ends v w.tail

abbrev pub key : Binding → Variable
key (to_type v t) = type_var v
key (to_row r w) = row_var r

abbrev pub OccursIn : Variable → Binding → Type 0
OccursIn v (to_type w t) = Occurs v t
OccursIn v (to_row r w) = OccursRow v w

-- s gives the variable what its binding gives
abbrev pub Keeps : Sub → Binding → Type 0
Keeps s (to_type v t) = s.type_of v ≡ apply s t
Keeps s (to_row r w) = s.row_of r ≡ apply_row s w

abbrev pub Solves : Sub → List Binding → Type 0
Solves s [] = Unit {0}
Solves s (b ∷ bs) = Keeps s b × Solves s bs

-- the variable stands nowhere in the bindings
abbrev pub Absent : Variable → List Binding → Type 0
Absent v [] = Unit {0}
Absent v (b ∷ bs) = (v ≡ key b → ⊥) × ((OccursIn v b → ⊥) × Absent v bs)

-- no bound variable stands in its own binding or later
abbrev pub Chain : List Binding → Type 0
Chain [] = Unit {0}
Chain (b ∷ bs) = (OccursIn (key b) b → ⊥) × (Absent (key b) bs × Chain bs)
