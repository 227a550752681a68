-- What a type is: a variable, a mark, two parts, or a record.
use Rattle.std.specs.Prelude.{ℕ, List, [], ◌∷◌, ◌≡◌, Option, bytes_eq, if◌then◌else◌}
use Rattle.snowcat_rows.specs.declared.types.Ty.{Ty}
use Rattle.snowcat_rows.specs.declared.types.Ty.TheOpen as layer
use Rattle.snowcat_rows.specs.declared.types.Ty.TheFolds.{fold-Ty}

-- the marks of the forms of types
pub data Head : Type 0 where
  BoolHead : Head
  IntHead : Head
  StrHead : Head
  NamedHead : List ℕ → Head
  SetHead : Head
  SeqHead : Head
  FunHead : Head
  TupHead : Head
  OperHead : Head
  EndHead : Head

mutual
  -- a type without addresses; a record says of each name whether it has it, and ends in a row variable or not
  pub data Term : Type 0 where
    var : ℕ → Term
    con : Head → Term
    app : Term → Term → Term
    fields : (List ℕ → Slot) → Option ℕ → Term

  pub data Slot : Type 0 where
    none : Slot
    some : Term → Slot

-- several types in order
abbrev pub row : List Term → Term
row [] = con EndHead
row (x ∷ xs) = app x (row xs)

-- the first field of that name
abbrev pub lookup : List (List ℕ × Term) → List ℕ → Slot
lookup [] n = none
lookup (f ∷ fs) n = if bytes_eq f.0 n then some f.1 else lookup fs n

abbrev pub mean_layer : layer.Ty-F Term → Term
mean_layer layer.Bool = con BoolHead
mean_layer layer.Int = con IntHead
mean_layer layer.Str = con StrHead
mean_layer (layer.Named t) = con (NamedHead t)
mean_layer (layer.Var n) = var n
mean_layer (layer.Set a) = app (con SetHead) a
mean_layer (layer.Seq a) = app (con SeqHead) a
mean_layer (layer.Fun a b) = app (con FunHead) (app a b)
mean_layer (layer.Tup ts) = app (con TupHead) (row ts)
mean_layer (layer.Rec fs r) = fields (lookup fs) r
mean_layer (layer.Oper ts b) = app (con OperHead) (app (row ts) b)

-- what a type means
unfoldable pub mean : Ty → Term
mean = fold-Ty Term mean_layer

-- x and y stand at one place of two types, where what stands to their left is the same
pub data Beside (x y : Term) : Term → Term → Type 0 where
  here : Beside x y x y
  first : (a b c d : Term) → Beside x y a b → Beside x y (app a c) (app b d)
  second : (a c d : Term) → Beside x y c d → Beside x y (app a c) (app a d)
  -- a field that both have
  field : (f g : List ℕ → Slot) (k j : Option ℕ) (n : List ℕ) (t u : Term) → f n ≡ some t → g n ≡ some u → Beside x y t u
      → Beside x y (fields f k) (fields g j)
