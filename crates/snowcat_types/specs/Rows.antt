-- The table of types: of each operator, the types of its operands and of its result. Its rows are those of the
-- operators of Specifying Systems (sections 1 to 5 and 16) under the Apalache manual, "Type System 1.2". The
-- families stand from the last to the first, and each goes on with the one above it: begin with `row_of` at the
-- end.
use Rattle.std.specs.Prelude.{ℕ, zero, suc, ◌+◌, List, [], ◌∷◌, ◌++◌, map, zip, replicate, length, Option, Some, None}
use Rattle.tla_meaning.specs.declared.op.Op.{Op}
use Rattle.tla_meaning.specs.declared.op.Op.TheVariants as op
use Rattle.tla_meaning.specs.Scopes.{find_last}
use Rattle.snowcat_rows.specs.Types.{Term}
use Rattle.snowcat_rows.specs.LiteralTypes.{literal_type}
use Rattle.snowcat_types.specs.TypeForms.{bool_type, int_type, str_type, set_type, seq_type, fun_type, tuple_type, record_type}

-- names with their types
abbrev pub Scope : Type 0
Scope = List (List ℕ × Term)

-- what an operand is to have: its type, and the names that the node binds in it
pub record Operand : Type 0 where
  pub type : Term
  pub under : Scope

pub record Signature : Type 0 where
  pub operands : List Operand
  pub result : Term

-- of how many types a row speaks, and what it says of them, whatever they are
pub record TypeRow : Type 0 where
  pub unknowns : ℕ
  pub says : (ℕ → Term) → Signature

abbrev pub about : ℕ → ((ℕ → Term) → Signature) → TypeRow
about n f = record { unknowns = n; says = f }

-- an operand in which nothing is bound
abbrev pub plain : Term → Operand
plain t = record { type = t; under = [] }

abbrev pub gives : List Term → Term → Signature
gives ts t = record { operands = map plain ts; result = t }

-- n types from the i-th on
abbrev pub from_type : (ℕ → Term) → ℕ → ℕ → List Term
from_type a i zero = []
from_type a i (suc n) = a i ∷ from_type a (i + 1) n

abbrev pub sets_of : List Term → List Term
sets_of ts = map set_type ts

-- ---- binders

-- one argument, or the tuple of several
abbrev pub argument_type : List Term → Term
argument_type (t ∷ []) = t
argument_type ts = tuple_type ts

-- each name with its type; one that is given none is bound in any case
abbrev pub typed_names : List (List ℕ) → List Term → Scope
typed_names [] ts = []
typed_names (x ∷ xs) [] = (x, bool_type) ∷ typed_names xs []
typed_names (x ∷ xs) (t ∷ ts) = (x, t) ∷ typed_names xs ts

-- domains, each a set of what its name stands for, and a body of this type
abbrev pub over : List (List ℕ) → (ℕ → Term) → Term → Term → Signature
over names a body t = record {
  operands =
      map plain (sets_of (from_type a 0 (length names)))
      ++ record { type = body; under = typed_names names (from_type a 0 (length names)) } ∷ [];
  result = t;
}

-- the type of the first of several names; a filter has one
abbrev pub first_type : List Term → Term
first_type [] = bool_type
first_type (t ∷ ts) = t

-- guards with their branches; one at the end is that of OTHER
abbrev pub branches : Term → ℕ → List Term
branches t zero = []
branches t (suc zero) = t ∷ []
branches t (suc (suc n)) = bool_type ∷ t ∷ branches t n

-- ---- EXCEPT: type 0 is that of the function; of its i-th index, counted through all updates, type 2i+1 is its
-- own, and type 2i+2 the one that is reached by it

abbrev pub index_number : ℕ → ℕ
index_number i = i + i + 1

abbrev pub reached_number : ℕ → ℕ
reached_number i = i + i + 2

abbrev pub index_types : (ℕ → Term) → ℕ → ℕ → List Term
index_types a i zero = []
index_types a i (suc n) = a (index_number i) ∷ index_types a (i + 1) n

-- after n indexes from the i-th on
abbrev pub reached_after : (ℕ → Term) → ℕ → ℕ → Term
reached_after a i zero = a 0
reached_after a i (suc zero) = a (reached_number i)
reached_after a i (suc (suc n)) = reached_after a (i + 1) (suc n)

-- of each update its indexes, and its right side, in which the node's name stands for what was there
abbrev pub update_operands : List (List ℕ) → (ℕ → Term) → ℕ → List ℕ → List Operand
update_operands names a i [] = []
update_operands names a i (n ∷ ns) =
    map plain (index_types a i n)
    ++ record { type = reached_after a i n; under = typed_names names (reached_after a i n ∷ []) }
    ∷ update_operands names a (i + n) ns

abbrev pub sum : List ℕ → ℕ
sum [] = 0
sum (n ∷ ns) = n + sum ns

-- ---- the table, by the operator, the names that the node binds and the number of its children; `a 0` and the
-- following are any types. Those that an overloaded node's choice ties stand here untied

-- the empty tuple is a sequence; another one has its type, that of its items where it is a sequence, and theirs
abbrev pub tuple_row : ℕ → TypeRow
tuple_row zero = about 1 (λ a. gives [] (seq_type (a 0)))
tuple_row (suc n) = about (suc n + 2) (λ a. gives (from_type a 2 (suc n)) (a 0))

-- tuples and sequences; other nodes are gone after expansion
abbrev pub sequence_row : Op → List (List ℕ) → ℕ → TypeRow
sequence_row op.Tuple names n = tuple_row n
sequence_row op.Len names n = about 1 (λ a. gives (seq_type (a 0) ∷ []) int_type)
sequence_row op.Append names n = about 1 (λ a. gives (seq_type (a 0) ∷ a 0 ∷ []) (seq_type (a 0)))
sequence_row op.Concat names n = about 1 (λ a. gives (seq_type (a 0) ∷ seq_type (a 0) ∷ []) (seq_type (a 0)))
sequence_row op.Head names n = about 1 (λ a. gives (seq_type (a 0) ∷ []) (a 0))
sequence_row op.Tail names n = about 1 (λ a. gives (seq_type (a 0) ∷ []) (seq_type (a 0)))
sequence_row op.SubSeq names n = about 1 (λ a. gives (seq_type (a 0) ∷ int_type ∷ int_type ∷ []) (seq_type (a 0)))
sequence_row op.Fold names n = about 2 (λ a. record {
  operands =
      record { type = a 0; under = typed_names names (a 0 ∷ a 1 ∷ []) }
      ∷ plain (a 0) ∷ plain (seq_type (a 1)) ∷ [];
  result = a 0;
})
sequence_row o names n = about 0 (λ a. gives [] bool_type)

-- records
abbrev pub record_row : Op → List (List ℕ) → ℕ → TypeRow
record_row (op.RecSet fs) names n = about n
    (λ a. gives (sets_of (from_type a 0 n)) (set_type (record_type (zip fs (from_type a 0 n)))))
record_row (op.Record fs) names n = about n (λ a. gives (from_type a 0 n) (record_type (zip fs (from_type a 0 n))))
record_row (op.Field f) names n = about 2 (λ a. gives (a 0 ∷ []) (a 1))
record_row o names n = sequence_row o names n

-- functions
abbrev pub function_row : Op → List (List ℕ) → ℕ → TypeRow
function_row op.FunSet names n = about 2
    (λ a. gives (set_type (a 0) ∷ set_type (a 1) ∷ []) (set_type (fun_type (a 0) (a 1))))
function_row op.Apply names n = about 3 (λ a. gives (a 0 ∷ a 1 ∷ []) (a 2))
function_row (op.Except ns) names n = about (1 + (sum ns + sum ns))
    (λ a. record { operands = plain (a 0) ∷ update_operands names a 0 ns; result = a 0 })
function_row op.Domain names n = about 4 (λ a. gives (a 0 ∷ []) (a 1))
function_row op.Merge names n = about 2
    (λ a. gives (fun_type (a 0) (a 1) ∷ fun_type (a 0) (a 1) ∷ []) (fun_type (a 0) (a 1)))
function_row op.Single names n = about 2 (λ a. gives (a 0 ∷ a 1 ∷ []) (fun_type (a 0) (a 1)))
function_row o names n = record_row o names n

-- binders
abbrev pub binder_row : Op → List (List ℕ) → ℕ → TypeRow
binder_row op.Exists names n = about (length names) (λ a. over names a bool_type bool_type)
binder_row op.Forall names n = about (length names) (λ a. over names a bool_type bool_type)
binder_row op.Filter names n = about (length names)
    (λ a. over names a bool_type (set_type (first_type (from_type a 0 (length names)))))
binder_row op.MapTo names n = about (length names + 1)
    (λ a. over names a (a (length names)) (set_type (a (length names))))
binder_row op.Lambda names n = about (length names + 1)
    (λ a. over names a (a (length names)) (fun_type (argument_type (from_type a 0 (length names))) (a (length names))))
binder_row o names n = function_row o names n

-- sets
abbrev pub set_row : Op → List (List ℕ) → ℕ → TypeRow
set_row op.SetEnum names n = about 1 (λ a. gives (replicate n (a 0)) (set_type (a 0)))
set_row op.Cup names n = about 1 (λ a. gives (set_type (a 0) ∷ set_type (a 0) ∷ []) (set_type (a 0)))
set_row op.Cap names n = about 1 (λ a. gives (set_type (a 0) ∷ set_type (a 0) ∷ []) (set_type (a 0)))
set_row op.Minus names n = about 1 (λ a. gives (set_type (a 0) ∷ set_type (a 0) ∷ []) (set_type (a 0)))
set_row op.Powerset names n = about 1 (λ a. gives (set_type (a 0) ∷ []) (set_type (set_type (a 0))))
set_row op.Product names n = about n (λ a. gives (sets_of (from_type a 0 n)) (set_type (tuple_type (from_type a 0 n))))
set_row op.BigUnion names n = about 1 (λ a. gives (set_type (set_type (a 0)) ∷ []) (set_type (a 0)))
set_row op.BooleanSet names n = about 0 (λ a. gives [] (set_type bool_type))
set_row op.IntSet names n = about 0 (λ a. gives [] (set_type int_type))
set_row op.NatSet names n = about 0 (λ a. gives [] (set_type int_type))
set_row op.StringSet names n = about 0 (λ a. gives [] (set_type str_type))
set_row op.SeqSet names n = about 1 (λ a. gives (set_type (a 0) ∷ []) (set_type (seq_type (a 0))))
set_row op.Cardinality names n = about 1 (λ a. gives (set_type (a 0) ∷ []) int_type)
set_row op.IsFinite names n = about 1 (λ a. gives (set_type (a 0) ∷ []) bool_type)
set_row o names n = binder_row o names n

-- numbers
abbrev pub number_row : Op → List (List ℕ) → ℕ → TypeRow
number_row op.Lt names n = about 0 (λ a. gives (int_type ∷ int_type ∷ []) bool_type)
number_row op.Gt names n = about 0 (λ a. gives (int_type ∷ int_type ∷ []) bool_type)
number_row op.Le names n = about 0 (λ a. gives (int_type ∷ int_type ∷ []) bool_type)
number_row op.Ge names n = about 0 (λ a. gives (int_type ∷ int_type ∷ []) bool_type)
number_row op.Add names n = about 0 (λ a. gives (int_type ∷ int_type ∷ []) int_type)
number_row op.Sub names n = about 0 (λ a. gives (int_type ∷ int_type ∷ []) int_type)
number_row op.Mul names n = about 0 (λ a. gives (int_type ∷ int_type ∷ []) int_type)
number_row op.Neg names n = about 0 (λ a. gives (int_type ∷ []) int_type)
number_row op.Div names n = about 0 (λ a. gives (int_type ∷ int_type ∷ []) int_type)
number_row op.Mod names n = about 0 (λ a. gives (int_type ∷ int_type ∷ []) int_type)
number_row op.Pow names n = about 0 (λ a. gives (int_type ∷ int_type ∷ []) int_type)
number_row op.Range names n = about 0 (λ a. gives (int_type ∷ int_type ∷ []) (set_type int_type))
number_row o names n = set_row o names n

-- equality and membership
abbrev pub equality_row : Op → List (List ℕ) → ℕ → TypeRow
equality_row op.Eq names n = about 1 (λ a. gives (a 0 ∷ a 0 ∷ []) bool_type)
equality_row op.Ne names n = about 1 (λ a. gives (a 0 ∷ a 0 ∷ []) bool_type)
equality_row op.Assign names n = about 1 (λ a. gives (a 0 ∷ a 0 ∷ []) bool_type)
equality_row op.In names n = about 1 (λ a. gives (a 0 ∷ set_type (a 0) ∷ []) bool_type)
equality_row op.NotIn names n = about 1 (λ a. gives (a 0 ∷ set_type (a 0) ∷ []) bool_type)
equality_row op.SubsetEq names n = about 1 (λ a. gives (set_type (a 0) ∷ set_type (a 0) ∷ []) bool_type)
equality_row o names n = number_row o names n

-- literals, truth values and choices
abbrev pub type_row : Op → List (List ℕ) → ℕ → TypeRow
type_row (op.Bool b) names n = about 0 (λ a. gives [] bool_type)
type_row (op.Int i) names n = about 0 (λ a. gives [] int_type)
type_row (op.Str s) names n = about 0 (λ a. gives [] (literal_type s))
type_row op.And names n = about 0 (λ a. gives (replicate n bool_type) bool_type)
type_row op.Or names n = about 0 (λ a. gives (replicate n bool_type) bool_type)
type_row op.Implies names n = about 0 (λ a. gives (bool_type ∷ bool_type ∷ []) bool_type)
type_row op.Not names n = about 0 (λ a. gives (bool_type ∷ []) bool_type)
type_row op.Iff names n = about 0 (λ a. gives (bool_type ∷ bool_type ∷ []) bool_type)
type_row op.If names n = about 1 (λ a. gives (bool_type ∷ a 0 ∷ a 0 ∷ []) (a 0))
type_row (op.Case other) names n = about 1 (λ a. gives (branches (a 0) n) (a 0))
type_row o names n = equality_row o names n

-- ---- nodes that have their type at once: declared names, bound names, and notes that bind one

-- what is known around a node: the types of declared names by number, what the texts of notes bind, and the types of
-- bound names
pub record Context : Type 0 where
  pub declared : ℕ → Term
  pub noted : List ℕ → Option Term
  pub bound : Scope

abbrev pub with_bound : Scope → Context → Context
with_bound xs c = record c { bound = c.bound ++ xs }

abbrev pub or_type : Option Term → Term → Term
or_type None t = t
or_type (Some u) t = u

abbrev pub noted_row : Option Term → TypeRow
noted_row None = about 1 (λ a. gives (a 0 ∷ []) (a 0))
noted_row (Some t) = about 0 (λ a. gives (t ∷ []) t)

-- the row of a node
abbrev pub row_of : Context → Op → List (List ℕ) → ℕ → TypeRow
row_of c (op.Name i primed) names n = about 0 (λ a. gives [] (c.declared i))
row_of c (op.Bound x) names n = about 0 (λ a. gives [] (or_type (find_last x c.bound) bool_type))
row_of c (op.Noted x) names n = noted_row (c.noted x)
row_of c o names n = type_row o names n
