-- What must hold of types. Source: the Apalache manual, "Type System 1.2".
use Rattle.std.specs.Prelude.{ℕ, zero, suc, ◌≡◌, List, [], ◌∷◌}
use Rattle.snowcat_types.specs.declared.kinds.Kind.{Kind}
use Rattle.snowcat_types.specs.declared.kinds.Kind.TheVariants.{NotFormed, Function, Sequence, Tuple as TupleKind, Record as RecordKind, Other}
use Rattle.snowcat_rows.specs.Types.{Term, Slot, var, con, app, fields, none, some, FunHead, SeqHead, TupHead}
use Rattle.snowcat_rows.specs.Substitutions.{Sub, apply}

-- how a type is formed, as far as it is known
abbrev pub kind : Term → Kind
kind (var v) = NotFormed
kind (app (var v) b) = NotFormed
kind (con h) = Other
kind (app (con FunHead) b) = Function
kind (app (con SeqHead) b) = Sequence
kind (app (con TupHead) b) = TupleKind
kind (app a b) = Other
kind (fields f k) = RecordKind

pub data Requirement : Type 0 where
  -- the two are equal; what the table says stands first
  Equal : Term → Term → Requirement
  -- the first is a tuple, and the second is its item of that number, from 1
  ItemOf : Term → ℕ → Term → Requirement
  -- the first is a record, and the second is its field of that name
  FieldOf : Term → List ℕ → Term → Requirement
  IsFormed : Kind → Term → Requirement
  Never : Requirement

-- the item of that number, from 1, of a tuple's row
abbrev pub item_of : Term → ℕ → Slot
item_of (app x rest) (suc zero) = some x
item_of (app x rest) (suc (suc n)) = item_of rest (suc n)
item_of t n = none

abbrev pub item_at : Term → ℕ → Slot
item_at (app (con TupHead) r) n = item_of r n
item_at t n = none

abbrev pub field_at : Term → List ℕ → Slot
field_at (fields f k) name = f name
field_at t name = none

-- the types that s gives meet the requirement
abbrev pub Meets : Sub → Requirement → Type 0
Meets s (Equal a b) = apply s a ≡ apply s b
Meets s (ItemOf t n u) = item_at (apply s t) n ≡ some (apply s u)
Meets s (FieldOf t name u) = field_at (apply s t) name ≡ some (apply s u)
Meets s (IsFormed k t) = kind (apply s t) ≡ k
Meets s Never = ⊥

abbrev pub MeetAll : Sub → List Requirement → Type 0
MeetAll s [] = Unit {0}
MeetAll s (r ∷ rs) = Meets s r × MeetAll s rs
