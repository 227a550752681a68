-- Overloaded nodes: which types their choices tie, and which choice is the default. Source: the Apalache manual,
-- "Type System 1.2" (applications, domains and tuples stand for functions, sequences, records and tuples).
use Rattle.std.specs.Prelude.{ℕ, suc, ◌+◌, List, [], ◌∷◌, ◌++◌, map, length, drop, pos}
use Rattle.tla_meaning.specs.declared.op.Op.{Op}
use Rattle.tla_meaning.specs.declared.op.Op.TheVariants as op
use Rattle.tla_meaning.specs.declared.place.Place.{Place}
use Rattle.snowcat_rows.specs.Types.{Term, var}
use Rattle.snowcat_types.specs.declared.waiting.Index.{Index}
use Rattle.snowcat_types.specs.declared.waiting.Index.TheVariants.{Number, Word, NoLiteral}
use Rattle.snowcat_types.specs.declared.waiting.Wait.{Wait}
pub use Rattle.snowcat_types.specs.declared.waiting.Sight.{Sight}
use Rattle.snowcat_types.specs.declared.waiting.Wait.TheVariants as wait
use Rattle.snowcat_types.specs.TypeForms.{int_type, str_type, set_type, seq_type, fun_type, tuple_type}
use Rattle.snowcat_types.specs.Rows.{from_type, index_number, reached_number}
use Rattle.snowcat_types.specs.declared.kinds.Kind.{Kind}
use Rattle.snowcat_types.specs.declared.kinds.Kind.TheVariants.{Function, Sequence, Tuple as TupleKind, Record as RecordKind}
use Rattle.snowcat_types.specs.Requirements.{Requirement, Equal, ItemOf, FieldOf, IsFormed, Never}

abbrev pub place_of : Wait → Place
place_of (wait.Apply p f i t x) = p
place_of (wait.Domain p f t x y) = p
place_of (wait.Tuple p t x i n) = p

-- the type that decides
abbrev pub deciding : Wait → Term
deciding (wait.Apply p f i t x) = var f
deciding (wait.Domain p f t x y) = var f
deciding (wait.Tuple p t x i n) = var t

-- the types of a tuple's items
abbrev pub items_from : ℕ → ℕ → List Term
items_from i n = from_type var i n

abbrev pub all_equal : Term → List Term → List Requirement
all_equal t us = map (Equal t) us

-- what the node asks where the type that decides is so formed: the part of that type stands first
abbrev pub choice : Wait → Kind → List Requirement
choice (wait.Apply p f i t x) Function = Equal (var f) (fun_type (var i) (var t)) ∷ []
choice (wait.Apply p f i t x) Sequence = Equal (var f) (seq_type (var t)) ∷ Equal int_type (var i) ∷ []
choice (wait.Apply p f i t (Number (pos n))) TupleKind = ItemOf (var f) n (var t) ∷ []
choice (wait.Apply p f i t (Word name)) RecordKind = FieldOf (var f) name (var t) ∷ []
choice (wait.Domain p f t x y) Function =
    Equal (var f) (fun_type (var x) (var y)) ∷ Equal (set_type (var x)) (var t) ∷ []
choice (wait.Domain p f t x y) Sequence = IsFormed Sequence (var f) ∷ Equal (set_type int_type) (var t) ∷ []
choice (wait.Domain p f t x y) TupleKind = IsFormed TupleKind (var f) ∷ Equal (set_type int_type) (var t) ∷ []
choice (wait.Domain p f t x y) RecordKind = IsFormed RecordKind (var f) ∷ Equal (set_type str_type) (var t) ∷ []
choice (wait.Tuple p t x i n) TupleKind = Equal (var t) (tuple_type (items_from i n)) ∷ []
choice (wait.Tuple p t x i n) Sequence = Equal (var t) (seq_type (var x)) ∷ all_equal (var x) (items_from i n)
choice w k = Never ∷ []

abbrev pub default_kind : Wait → Kind
default_kind (wait.Apply p f i t x) = Function
default_kind (wait.Domain p f t x y) = Function
default_kind (wait.Tuple p t x i n) = TupleKind

-- the type that decides, by default
abbrev pub default_type : Wait → Term
default_type (wait.Apply p f i t x) = fun_type (var i) (var t)
default_type (wait.Domain p f t x y) = fun_type (var x) (var y)
default_type (wait.Tuple p t x i n) = tuple_type (items_from i n)

-- ---- which nodes wait

abbrev pub first_literal : List Sight → Index
first_literal [] = NoLiteral
first_literal (k ∷ ks) = k.literal

-- a literal is seen through a note
abbrev pub literal_of : Op → List Sight → Index
literal_of (op.Int i) ks = Number i
literal_of (op.Str s) ks = Word s
literal_of (op.Noted x) ks = first_literal ks
literal_of o ks = NoLiteral

abbrev pub second_literal : List Sight → Index
second_literal (j ∷ k ∷ ks) = k.literal
second_literal ks = NoLiteral

-- n indexes of an EXCEPT, the first being its i-th, each where the one before it leads
abbrev pub waiting_indexes : ℕ → ℕ → ℕ → ℕ → List Sight → List Wait
waiting_indexes v from i (suc n) (k ∷ ks) =
    wait.Apply k.place from (v + index_number i) (v + reached_number i) k.literal
    ∷ waiting_indexes v (v + reached_number i) (i + 1) n ks
waiting_indexes v from i n ks = []

abbrev pub waiting_updates : ℕ → ℕ → List ℕ → List Sight → List Wait
waiting_updates v i [] ks = []
waiting_updates v i (n ∷ ns) ks = waiting_indexes v v i n ks ++ waiting_updates v (i + n) ns (drop (suc n) ks)

-- the waiting nodes of a node, whose unknown types begin with the number v
abbrev pub waiting : Place → Op → ℕ → List Sight → List Wait
waiting p op.Apply v ks = wait.Apply p v (v + 1) (v + 2) (second_literal ks) ∷ []
waiting p (op.Except ns) v [] = []
waiting p (op.Except ns) v (k ∷ ks) = waiting_updates v 0 ns ks
waiting p op.Domain v ks = wait.Domain p v (v + 1) (v + 2) (v + 3) ∷ []
waiting p op.Tuple v [] = []
waiting p op.Tuple v (k ∷ ks) = wait.Tuple p v (v + 1) (v + 2) (suc (length ks)) ∷ []
waiting p o v ks = []
