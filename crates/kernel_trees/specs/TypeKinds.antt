-- What a type without variables says. Source: the Apalache manual, "Type System 1.2: Type annotations".
use Rattle.std.specs.Prelude.{ℕ, zero, suc, Bool, true, false, ◌&&◌, List, [], ◌∷◌, map, Option, Some, None, option_map, option_and_then, if◌then◌else◌}
use Rattle.std.specs.List.{list_all}
use Rattle.std.specs.Ordering.{is_eq, is_lt}
use Rattle.tla_values.specs.Order.{text_cmp}
use Rattle.snowcat_rows.specs.TypeTexts.{are_distinct}
use Rattle.snowcat_rows.specs.declared.types.Ty.{Ty}
use Rattle.snowcat_rows.specs.declared.types.Ty.TheFolds.{fold-Ty}
use Rattle.snowcat_rows.specs.declared.types.Ty.TheOpen as ty

mutual
  -- truth values, numbers, texts of an uninterpreted type or, under the empty name, of Str, and what is made of them
  pub data Kind : Type 0 where
    Truth Number : Kind
    Word : List ℕ → Kind
    Set Seq : Kind → Kind
    Fun : Kind → Kind → Kind
    Tup : Kinds → Kind
    Rec : Fields → Kind

  pub data Kinds : Type 0 where
    no_kinds : Kinds
    more_kinds : Kind → Kinds → Kinds

  -- in the order of their names' bytes
  pub data Fields : Type 0 where
    no_fields : Fields
    more_fields : List ℕ → Kind → Fields → Fields

abbrev pub kinds : List Kind → Kinds
kinds [] = no_kinds
kinds (a ∷ as') = more_kinds a (kinds as')

abbrev pub insert_field : List ℕ → Kind → Fields → Fields
insert_field x a no_fields = more_fields x a no_fields
insert_field x a (more_fields y b fs) =
    if is_lt (text_cmp x y) then more_fields x a (more_fields y b fs) else more_fields y b (insert_field x a fs)

-- however they are written
abbrev pub fields : List (List ℕ × Kind) → Fields
fields [] = no_fields
fields (f ∷ fs) = insert_field f.0 f.1 (fields fs)

-- ---- the kind of a type: none of one with a variable, of an open record, of one with a name twice, and of an operator

-- where each is there
abbrev pub all_there : {X : Type 0} → List (Option X) → Option (List X)
all_there [] = Some []
all_there (o ∷ os) = option_and_then (λ x. option_map (λ xs. x ∷ xs) (all_there os)) o

abbrev pub all_fields_there : {X : Type 0} → List (List ℕ × Option X) → Option (List (List ℕ × X))
all_fields_there [] = Some []
all_fields_there (f ∷ fs) = option_and_then (λ x. option_map (λ xs. (f.0, x) ∷ xs) (all_fields_there fs)) f.1

-- a text's type: no type has the empty name
abbrev pub word_kind : List ℕ → Option Kind
word_kind [] = None
word_kind (x ∷ xs) = Some (Word (x ∷ xs))

-- of a record with fields of different names
abbrev pub record_kind : List (List ℕ × Option Kind) → Option Kind
record_kind fs =
    if are_distinct (map (λ f. f.0) fs) then option_map (λ xs. Rec (fields xs)) (all_fields_there fs) else None

abbrev pub kind_layer : ty.Ty-F (Option Kind) → Option Kind
kind_layer ty.Bool = Some Truth
kind_layer ty.Int = Some Number
kind_layer ty.Str = Some (Word [])
kind_layer (ty.Named x) = word_kind x
kind_layer (ty.Var n) = None
kind_layer (ty.Set a) = option_map Set a
kind_layer (ty.Seq a) = option_map Seq a
kind_layer (ty.Fun a b) = option_and_then (λ x. option_map (λ y. Fun x y) b) a
kind_layer (ty.Tup as') = option_map (λ xs. Tup (kinds xs)) (all_there as')
kind_layer (ty.Rec fs None) = record_kind fs
kind_layer (ty.Rec fs (Some r)) = None
kind_layer (ty.Oper as' b) = None

unfoldable pub kind_of : Ty → Option Kind
kind_of = fold-Ty (Option Kind) kind_layer

-- ---- equal kinds

abbrev mutual
  pub same : Kind → Kind → Bool
  same Truth Truth = true
  same Number Number = true
  same (Word x) (Word y) = is_eq (text_cmp x y)
  same (Set a) (Set b) = same a b
  same (Seq a) (Seq b) = same a b
  same (Fun a b) (Fun c d) = same a c && same b d
  same (Tup as') (Tup bs) = all_same as' bs
  same (Rec as') (Rec bs) = fields_same as' bs
  same a b = false

  pub all_same : Kinds → Kinds → Bool
  all_same no_kinds no_kinds = true
  all_same (more_kinds a as') (more_kinds b bs) = same a b && all_same as' bs
  all_same as' bs = false

  pub fields_same : Fields → Fields → Bool
  fields_same no_fields no_fields = true
  fields_same (more_fields x a as') (more_fields y b bs) = is_eq (text_cmp x y) && (same a b && fields_same as' bs)
  fields_same as' bs = false

abbrev pub is_kind : Kind → Option Kind → Bool
is_kind a None = false
is_kind a (Some b) = same a b

abbrev pub each_is : Kind → List Kind → Bool
each_is a bs = list_all (λ b. same a b) bs

-- ---- parts

-- of an item, by its number from 1
abbrev pub item_kind : Kinds → ℕ → Option Kind
item_kind no_kinds n = None
item_kind (more_kinds a as') zero = None
item_kind (more_kinds a as') (suc zero) = Some a
item_kind (more_kinds a as') (suc (suc n)) = item_kind as' (suc n)

abbrev pub field_kind : Fields → List ℕ → Option Kind
field_kind no_fields x = None
field_kind (more_fields y a fs) x = if is_eq (text_cmp x y) then Some a else field_kind fs x

-- of the members of sets
abbrev pub members : List Kind → Option (List Kind)
members [] = Some []
members (Set a ∷ as') = option_map (λ bs. a ∷ bs) (members as')
members as' = None
