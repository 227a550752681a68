-- Each row of the table of types on an expression, by computing: how many types it speaks of, the type of the node, what it
-- asks of its operands, and what waits. Most operands have another type than the row wants, so that each is told apart.
use Rattle.std.proofs.Common.{◌≡◌, ℕ, true, false, List, [], ◌∷◌, ◌++◌, pos, codes, Some, None, if◌then◌else◌}
use Rattle.std.specs.Prelude.{bytes_eq}
use Rattle.tla_meaning.specs.declared.expr.Expr.{Expr, roll-Expr}
use Rattle.tla_meaning.specs.declared.place.Place.{Place}
use Rattle.tla_meaning.specs.declared.op.Op.{Op}
use Rattle.tla_meaning.specs.declared.op.Op.TheVariants as op
use Rattle.snowcat_rows.specs.Types.{Term, var, con, NamedHead}
use Rattle.snowcat_types.specs.declared.waiting.Index.TheVariants.{Number, Word}
use Rattle.snowcat_types.specs.declared.waiting.Wait.{Wait}
use Rattle.snowcat_types.specs.declared.waiting.Wait.TheVariants as wait
use Rattle.snowcat_types.specs.TypeForms.{bool_type, int_type, str_type, set_type, seq_type, fun_type, tuple_type, record_type}
use Rattle.snowcat_types.specs.Rows.{Context}
use Rattle.snowcat_types.specs.Requirements.{Requirement, Equal, FieldOf}
use Rattle.snowcat_types.specs.Systems.{Entry, Asks, Waits, Found, visit}
use Rattle.snowcat_types.proofs.Visits.{visit-at}

abbrev pub at : ℕ → Place
at n = record { file = 0; line = 1; col = n }

abbrev pub tree : ℕ → Op → List (List ℕ) → List Expr → Expr
tree n o xs es = roll-Expr (record { place = at n; op = o; args = es; binds = xs })

abbrev pub leaf : ℕ → Op → Expr
leaf n o = tree n o [] []

abbrev pub a : List ℕ
a = codes "a"

abbrev pub x : List ℕ
x = codes "x"

abbrev pub y : List ℕ
y = codes "y"

abbrev old_name : List ℕ
old_name = codes "@"

abbrev one_of_p : List ℕ
one_of_p = codes "1_OF_P"

abbrev named_p : Term
named_p = con (NamedHead (codes "P"))

abbrev pub one : Expr
one = leaf 2 (op.Int (pos 1))

abbrev pub word : Expr
word = leaf 3 (op.Str a)

abbrev pub yes : Expr
yes = leaf 4 (op.Bool true)

abbrev y_there : Expr
y_there = leaf 5 (op.Bound y)

abbrev old : Expr
old = leaf 6 (op.Bound old_name)

abbrev pub nothing_known : Context
nothing_known = record { declared = var; noted = λ z. None; bound = [] }

abbrev some_known : Context
some_known = record {
  declared = var;
  noted = λ z. if bytes_eq z x then Some str_type else None;
  bound = (x, int_type) ∷ (x, str_type) ∷ [];
}

record RowAt : Type 0 where
  next : ℕ
  type : Term
  asks : List Requirement
  waits : List Wait

-- what the root adds stands last
abbrev last_asks : List Requirement → List Entry → List Requirement
last_asks rs [] = rs
last_asks rs (Asks p qs ∷ es) = last_asks qs es
last_asks rs (Waits w ∷ es) = last_asks rs es

abbrev last_waits : List Wait → List Entry → List Wait
last_waits ws [] = ws
last_waits ws (Asks p qs ∷ es) = last_waits [] es
last_waits ws (Waits w ∷ es) = last_waits (ws ++ w ∷ []) es

abbrev row_at : Found → RowAt
row_at f = record { next = f.next; type = f.type; asks = last_asks [] f.entries; waits = last_waits [] f.entries }

abbrev is : ℕ → Term → List Requirement → List Wait → RowAt
is n t rs ws = record { next = n; type = t; asks = rs; waits = ws }

-- TRUE
truth : row_at (visit (tree 1 (op.Bool true) [] []) 0 nothing_known) ≡
    is 0 bool_type [] []
truth = simp (visit-at)

-- 1
number : row_at (visit (tree 1 (op.Int (pos 1)) [] []) 0 nothing_known) ≡
    is 0 int_type [] []
number = simp (visit-at)

-- "a"
text : row_at (visit (tree 1 (op.Str a) [] []) 0 nothing_known) ≡
    is 0 str_type [] []
text = simp (visit-at)

-- "1_OF_P"
text_of_type : row_at (visit (tree 1 (op.Str one_of_p) [] []) 0 nothing_known) ≡
    is 0 named_p [] []
text_of_type = simp (visit-at)

-- /\ TRUE /\ 1 /\ "a"
conjunction : row_at (visit (tree 1 op.And [] (yes ∷ one ∷ word ∷ [])) 0 nothing_known) ≡
    is 0 bool_type (Equal bool_type bool_type ∷ Equal bool_type int_type ∷ Equal bool_type str_type ∷ []) []
conjunction = simp (visit-at)

-- \/ 1 \/ "a"
disjunction : row_at (visit (tree 1 op.Or [] (one ∷ word ∷ [])) 0 nothing_known) ≡
    is 0 bool_type (Equal bool_type int_type ∷ Equal bool_type str_type ∷ []) []
disjunction = simp (visit-at)

-- 1 => "a"
implication : row_at (visit (tree 1 op.Implies [] (one ∷ word ∷ [])) 0 nothing_known) ≡
    is 0 bool_type (Equal bool_type int_type ∷ Equal bool_type str_type ∷ []) []
implication = simp (visit-at)

-- ~1
negation : row_at (visit (tree 1 op.Not [] (one ∷ [])) 0 nothing_known) ≡
    is 0 bool_type (Equal bool_type int_type ∷ []) []
negation = simp (visit-at)

-- 1 <=> "a"
equivalence : row_at (visit (tree 1 op.Iff [] (one ∷ word ∷ [])) 0 nothing_known) ≡
    is 0 bool_type (Equal bool_type int_type ∷ Equal bool_type str_type ∷ []) []
equivalence = simp (visit-at)

-- IF TRUE THEN 1 ELSE "a"
choice_of_two : row_at (visit (tree 1 op.If [] (yes ∷ one ∷ word ∷ [])) 0 nothing_known) ≡
    is 1 (var 0) (Equal bool_type bool_type ∷ Equal (var 0) int_type ∷ Equal (var 0) str_type ∷ []) []
choice_of_two = simp (visit-at)

-- CASE TRUE -> 1 [] 1 -> "a"
cases : row_at (visit (tree 1 (op.Case false) [] (yes ∷ one ∷ one ∷ word ∷ [])) 0 nothing_known) ≡
    is 1 (var 0) (Equal bool_type bool_type ∷ Equal (var 0) int_type ∷ Equal bool_type int_type ∷ Equal (var 0) str_type ∷ []) []
cases = simp (visit-at)

-- CASE TRUE -> 1 [] OTHER -> "a"
cases_with_other : row_at (visit (tree 1 (op.Case true) [] (yes ∷ one ∷ word ∷ [])) 0 nothing_known) ≡
    is 1 (var 0) (Equal bool_type bool_type ∷ Equal (var 0) int_type ∷ Equal (var 0) str_type ∷ []) []
cases_with_other = simp (visit-at)

-- 1 = "a"
equal : row_at (visit (tree 1 op.Eq [] (one ∷ word ∷ [])) 0 nothing_known) ≡
    is 1 bool_type (Equal (var 0) int_type ∷ Equal (var 0) str_type ∷ []) []
equal = simp (visit-at)

-- 1 # "a"
unequal : row_at (visit (tree 1 op.Ne [] (one ∷ word ∷ [])) 0 nothing_known) ≡
    is 1 bool_type (Equal (var 0) int_type ∷ Equal (var 0) str_type ∷ []) []
unequal = simp (visit-at)

-- 1 := "a"
assigned : row_at (visit (tree 1 op.Assign [] (one ∷ word ∷ [])) 0 nothing_known) ≡
    is 1 bool_type (Equal (var 0) int_type ∷ Equal (var 0) str_type ∷ []) []
assigned = simp (visit-at)

-- 1 \in "a"
member : row_at (visit (tree 1 op.In [] (one ∷ word ∷ [])) 0 nothing_known) ≡
    is 1 bool_type (Equal (var 0) int_type ∷ Equal (set_type (var 0)) str_type ∷ []) []
member = simp (visit-at)

-- 1 \notin "a"
no_member : row_at (visit (tree 1 op.NotIn [] (one ∷ word ∷ [])) 0 nothing_known) ≡
    is 1 bool_type (Equal (var 0) int_type ∷ Equal (set_type (var 0)) str_type ∷ []) []
no_member = simp (visit-at)

-- 1 \subseteq "a"
subset : row_at (visit (tree 1 op.SubsetEq [] (one ∷ word ∷ [])) 0 nothing_known) ≡
    is 1 bool_type (Equal (set_type (var 0)) int_type ∷ Equal (set_type (var 0)) str_type ∷ []) []
subset = simp (visit-at)

-- 1 < "a"
less : row_at (visit (tree 1 op.Lt [] (one ∷ word ∷ [])) 0 nothing_known) ≡
    is 0 bool_type (Equal int_type int_type ∷ Equal int_type str_type ∷ []) []
less = simp (visit-at)

-- 1 > "a"
greater : row_at (visit (tree 1 op.Gt [] (one ∷ word ∷ [])) 0 nothing_known) ≡
    is 0 bool_type (Equal int_type int_type ∷ Equal int_type str_type ∷ []) []
greater = simp (visit-at)

-- 1 <= "a"
at_most : row_at (visit (tree 1 op.Le [] (one ∷ word ∷ [])) 0 nothing_known) ≡
    is 0 bool_type (Equal int_type int_type ∷ Equal int_type str_type ∷ []) []
at_most = simp (visit-at)

-- 1 >= "a"
at_least : row_at (visit (tree 1 op.Ge [] (one ∷ word ∷ [])) 0 nothing_known) ≡
    is 0 bool_type (Equal int_type int_type ∷ Equal int_type str_type ∷ []) []
at_least = simp (visit-at)

-- 1 + "a"
sum_of_two : row_at (visit (tree 1 op.Add [] (one ∷ word ∷ [])) 0 nothing_known) ≡
    is 0 int_type (Equal int_type int_type ∷ Equal int_type str_type ∷ []) []
sum_of_two = simp (visit-at)

-- 1 - "a"
difference : row_at (visit (tree 1 op.Sub [] (one ∷ word ∷ [])) 0 nothing_known) ≡
    is 0 int_type (Equal int_type int_type ∷ Equal int_type str_type ∷ []) []
difference = simp (visit-at)

-- 1 * "a"
product : row_at (visit (tree 1 op.Mul [] (one ∷ word ∷ [])) 0 nothing_known) ≡
    is 0 int_type (Equal int_type int_type ∷ Equal int_type str_type ∷ []) []
product = simp (visit-at)

-- 1 \div "a"
quotient : row_at (visit (tree 1 op.Div [] (one ∷ word ∷ [])) 0 nothing_known) ≡
    is 0 int_type (Equal int_type int_type ∷ Equal int_type str_type ∷ []) []
quotient = simp (visit-at)

-- 1 % "a"
rest : row_at (visit (tree 1 op.Mod [] (one ∷ word ∷ [])) 0 nothing_known) ≡
    is 0 int_type (Equal int_type int_type ∷ Equal int_type str_type ∷ []) []
rest = simp (visit-at)

-- 1 ^ "a"
power : row_at (visit (tree 1 op.Pow [] (one ∷ word ∷ [])) 0 nothing_known) ≡
    is 0 int_type (Equal int_type int_type ∷ Equal int_type str_type ∷ []) []
power = simp (visit-at)

-- -"a"
negative : row_at (visit (tree 1 op.Neg [] (word ∷ [])) 0 nothing_known) ≡
    is 0 int_type (Equal int_type str_type ∷ []) []
negative = simp (visit-at)

-- 1.."a"
range : row_at (visit (tree 1 op.Range [] (one ∷ word ∷ [])) 0 nothing_known) ≡
    is 0 (set_type int_type) (Equal int_type int_type ∷ Equal int_type str_type ∷ []) []
range = simp (visit-at)

-- {1, "a"}
items : row_at (visit (tree 1 op.SetEnum [] (one ∷ word ∷ [])) 0 nothing_known) ≡
    is 1 (set_type (var 0)) (Equal (var 0) int_type ∷ Equal (var 0) str_type ∷ []) []
items = simp (visit-at)

-- 1 \cup "a"
union_of_two : row_at (visit (tree 1 op.Cup [] (one ∷ word ∷ [])) 0 nothing_known) ≡
    is 1 (set_type (var 0)) (Equal (set_type (var 0)) int_type ∷ Equal (set_type (var 0)) str_type ∷ []) []
union_of_two = simp (visit-at)

-- 1 \cap "a"
common : row_at (visit (tree 1 op.Cap [] (one ∷ word ∷ [])) 0 nothing_known) ≡
    is 1 (set_type (var 0)) (Equal (set_type (var 0)) int_type ∷ Equal (set_type (var 0)) str_type ∷ []) []
common = simp (visit-at)

-- 1 \ "a"
without : row_at (visit (tree 1 op.Minus [] (one ∷ word ∷ [])) 0 nothing_known) ≡
    is 1 (set_type (var 0)) (Equal (set_type (var 0)) int_type ∷ Equal (set_type (var 0)) str_type ∷ []) []
without = simp (visit-at)

-- SUBSET 1
subsets : row_at (visit (tree 1 op.Powerset [] (one ∷ [])) 0 nothing_known) ≡
    is 1 (set_type (set_type (var 0))) (Equal (set_type (var 0)) int_type ∷ []) []
subsets = simp (visit-at)

-- 1 \X "a"
tuples : row_at (visit (tree 1 op.Product [] (one ∷ word ∷ [])) 0 nothing_known) ≡
    is 2 (set_type (tuple_type (var 0 ∷ var 1 ∷ []))) (Equal (set_type (var 0)) int_type ∷ Equal (set_type (var 1)) str_type ∷ []) []
tuples = simp (visit-at)

-- UNION 1
union_of_all : row_at (visit (tree 1 op.BigUnion [] (one ∷ [])) 0 nothing_known) ≡
    is 1 (set_type (var 0)) (Equal (set_type (set_type (var 0))) int_type ∷ []) []
union_of_all = simp (visit-at)

-- BOOLEAN
truths : row_at (visit (tree 1 op.BooleanSet [] []) 0 nothing_known) ≡
    is 0 (set_type bool_type) [] []
truths = simp (visit-at)

-- Int
integers : row_at (visit (tree 1 op.IntSet [] []) 0 nothing_known) ≡
    is 0 (set_type int_type) [] []
integers = simp (visit-at)

-- Nat
naturals : row_at (visit (tree 1 op.NatSet [] []) 0 nothing_known) ≡
    is 0 (set_type int_type) [] []
naturals = simp (visit-at)

-- STRING
texts : row_at (visit (tree 1 op.StringSet [] []) 0 nothing_known) ≡
    is 0 (set_type str_type) [] []
texts = simp (visit-at)

-- Seq(1)
sequences : row_at (visit (tree 1 op.SeqSet [] (one ∷ [])) 0 nothing_known) ≡
    is 1 (set_type (seq_type (var 0))) (Equal (set_type (var 0)) int_type ∷ []) []
sequences = simp (visit-at)

-- Cardinality(1)
cardinality : row_at (visit (tree 1 op.Cardinality [] (one ∷ [])) 0 nothing_known) ≡
    is 1 int_type (Equal (set_type (var 0)) int_type ∷ []) []
cardinality = simp (visit-at)

-- IsFiniteSet(1)
finite : row_at (visit (tree 1 op.IsFinite [] (one ∷ [])) 0 nothing_known) ≡
    is 1 bool_type (Equal (set_type (var 0)) int_type ∷ []) []
finite = simp (visit-at)

-- \E x \in 1, y \in "a": y
some : row_at (visit (tree 1 op.Exists (x ∷ y ∷ []) (one ∷ word ∷ y_there ∷ [])) 0 nothing_known) ≡
    is 2 bool_type (Equal (set_type (var 0)) int_type ∷ Equal (set_type (var 1)) str_type ∷ Equal bool_type (var 1) ∷ []) []
some = simp (visit-at)

-- \A x \in 1, y \in "a": y
all : row_at (visit (tree 1 op.Forall (x ∷ y ∷ []) (one ∷ word ∷ y_there ∷ [])) 0 nothing_known) ≡
    is 2 bool_type (Equal (set_type (var 0)) int_type ∷ Equal (set_type (var 1)) str_type ∷ Equal bool_type (var 1) ∷ []) []
all = simp (visit-at)

-- {y \in "a": y}
filtered : row_at (visit (tree 1 op.Filter (y ∷ []) (word ∷ y_there ∷ [])) 0 nothing_known) ≡
    is 1 (set_type (var 0)) (Equal (set_type (var 0)) str_type ∷ Equal bool_type (var 0) ∷ []) []
filtered = simp (visit-at)

-- {y: x \in 1, y \in "a"}
mapped : row_at (visit (tree 1 op.MapTo (x ∷ y ∷ []) (one ∷ word ∷ y_there ∷ [])) 0 nothing_known) ≡
    is 3 (set_type (var 2)) (Equal (set_type (var 0)) int_type ∷ Equal (set_type (var 1)) str_type ∷ Equal (var 2) (var 1) ∷ []) []
mapped = simp (visit-at)

-- [y \in "a" |-> y]
function_of_one : row_at (visit (tree 1 op.Lambda (y ∷ []) (word ∷ y_there ∷ [])) 0 nothing_known) ≡
    is 2 (fun_type (var 0) (var 1)) (Equal (set_type (var 0)) str_type ∷ Equal (var 1) (var 0) ∷ []) []
function_of_one = simp (visit-at)

-- [x \in 1, y \in "a" |-> y]
function_of_two : row_at (visit (tree 1 op.Lambda (x ∷ y ∷ []) (one ∷ word ∷ y_there ∷ [])) 0 nothing_known) ≡
    is 3 (fun_type (tuple_type (var 0 ∷ var 1 ∷ [])) (var 2)) (Equal (set_type (var 0)) int_type ∷ Equal (set_type (var 1)) str_type ∷ Equal (var 2) (var 1) ∷ []) []
function_of_two = simp (visit-at)

-- [1 -> "a"]
functions : row_at (visit (tree 1 op.FunSet [] (one ∷ word ∷ [])) 0 nothing_known) ≡
    is 2 (set_type (fun_type (var 0) (var 1))) (Equal (set_type (var 0)) int_type ∷ Equal (set_type (var 1)) str_type ∷ []) []
functions = simp (visit-at)

-- 1["a"]
applied : row_at (visit (tree 1 op.Apply [] (one ∷ word ∷ [])) 0 nothing_known) ≡
    is 3 (var 2) (Equal (var 0) int_type ∷ Equal (var 1) str_type ∷ []) (wait.Apply (at 1) 0 1 2 (Word a) ∷ [])
applied = simp (visit-at)

-- [1 EXCEPT !["a"][1] = @, !["a"] = TRUE]
updated : row_at (visit (tree 1 (op.Except (2 ∷ 1 ∷ [])) (old_name ∷ []) (one ∷ word ∷ one ∷ old ∷ word ∷ yes ∷ [])) 0 nothing_known) ≡
    is 7 (var 0) (Equal (var 0) int_type ∷ Equal (var 1) str_type ∷ Equal (var 3) int_type ∷ Equal (var 4) (var 4) ∷ Equal (var 5) str_type ∷ Equal (var 6) bool_type ∷ []) (wait.Apply (at 3) 0 1 2 (Word a) ∷ wait.Apply (at 2) 2 3 4 (Number (pos 1)) ∷ wait.Apply (at 3) 0 5 6 (Word a) ∷ [])
updated = simp (visit-at)

-- DOMAIN 1
domain : row_at (visit (tree 1 op.Domain [] (one ∷ [])) 0 nothing_known) ≡
    is 4 (var 1) (Equal (var 0) int_type ∷ []) (wait.Domain (at 1) 0 1 2 3 ∷ [])
domain = simp (visit-at)

-- 1 @@ "a"
merged : row_at (visit (tree 1 op.Merge [] (one ∷ word ∷ [])) 0 nothing_known) ≡
    is 2 (fun_type (var 0) (var 1)) (Equal (fun_type (var 0) (var 1)) int_type ∷ Equal (fun_type (var 0) (var 1)) str_type ∷ []) []
merged = simp (visit-at)

-- 1 :> "a"
single : row_at (visit (tree 1 op.Single [] (one ∷ word ∷ [])) 0 nothing_known) ≡
    is 2 (fun_type (var 0) (var 1)) (Equal (var 0) int_type ∷ Equal (var 1) str_type ∷ []) []
single = simp (visit-at)

-- [x: 1, y: "a"]
records : row_at (visit (tree 1 (op.RecSet (x ∷ y ∷ [])) [] (one ∷ word ∷ [])) 0 nothing_known) ≡
    is 2 (set_type (record_type ((x, var 0) ∷ (y, var 1) ∷ []))) (Equal (set_type (var 0)) int_type ∷ Equal (set_type (var 1)) str_type ∷ []) []
records = simp (visit-at)

-- [x |-> 1, y |-> "a"]
record_of_two : row_at (visit (tree 1 (op.Record (x ∷ y ∷ [])) [] (one ∷ word ∷ [])) 0 nothing_known) ≡
    is 2 (record_type ((x, var 0) ∷ (y, var 1) ∷ [])) (Equal (var 0) int_type ∷ Equal (var 1) str_type ∷ []) []
record_of_two = simp (visit-at)

-- 1.x
field_of_record : row_at (visit (tree 1 (op.Field x) [] (one ∷ [])) 0 nothing_known) ≡
    is 2 (var 1) (Equal (var 0) int_type ∷ FieldOf (var 0) x (var 1) ∷ []) []
field_of_record = simp (visit-at)

-- <<>>
tuple_of_none : row_at (visit (tree 1 op.Tuple [] []) 0 nothing_known) ≡
    is 1 (seq_type (var 0)) [] []
tuple_of_none = simp (visit-at)

-- <<1, "a">>
tuple_of_two : row_at (visit (tree 1 op.Tuple [] (one ∷ word ∷ [])) 0 nothing_known) ≡
    is 4 (var 0) (Equal (var 2) int_type ∷ Equal (var 3) str_type ∷ []) (wait.Tuple (at 1) 0 1 2 2 ∷ [])
tuple_of_two = simp (visit-at)

-- Len(1)
length_of : row_at (visit (tree 1 op.Len [] (one ∷ [])) 0 nothing_known) ≡
    is 1 int_type (Equal (seq_type (var 0)) int_type ∷ []) []
length_of = simp (visit-at)

-- Append(1, "a")
appended : row_at (visit (tree 1 op.Append [] (one ∷ word ∷ [])) 0 nothing_known) ≡
    is 1 (seq_type (var 0)) (Equal (seq_type (var 0)) int_type ∷ Equal (var 0) str_type ∷ []) []
appended = simp (visit-at)

-- 1 \o "a"
one_behind_another : row_at (visit (tree 1 op.Concat [] (one ∷ word ∷ [])) 0 nothing_known) ≡
    is 1 (seq_type (var 0)) (Equal (seq_type (var 0)) int_type ∷ Equal (seq_type (var 0)) str_type ∷ []) []
one_behind_another = simp (visit-at)

-- Head(1)
first_item : row_at (visit (tree 1 op.Head [] (one ∷ [])) 0 nothing_known) ≡
    is 1 (var 0) (Equal (seq_type (var 0)) int_type ∷ []) []
first_item = simp (visit-at)

-- Tail(1)
other_items : row_at (visit (tree 1 op.Tail [] (one ∷ [])) 0 nothing_known) ≡
    is 1 (seq_type (var 0)) (Equal (seq_type (var 0)) int_type ∷ []) []
other_items = simp (visit-at)

-- SubSeq(1, "a", TRUE)
slice : row_at (visit (tree 1 op.SubSeq [] (one ∷ word ∷ yes ∷ [])) 0 nothing_known) ≡
    is 1 (seq_type (var 0)) (Equal (seq_type (var 0)) int_type ∷ Equal int_type str_type ∷ Equal int_type bool_type ∷ []) []
slice = simp (visit-at)

-- ApaFoldSeqLeft(LAMBDA x, y: y, 1, "a")
folded : row_at (visit (tree 1 op.Fold (x ∷ y ∷ []) (y_there ∷ one ∷ word ∷ [])) 0 nothing_known) ≡
    is 2 (var 0) (Equal (var 0) (var 1) ∷ Equal (var 0) int_type ∷ Equal (seq_type (var 1)) str_type ∷ []) []
folded = simp (visit-at)

-- 1 under a note
note_that_binds_none : row_at (visit (tree 1 (op.Noted y) [] (one ∷ [])) 0 nothing_known) ≡
    is 1 (var 0) (Equal (var 0) int_type ∷ []) []
note_that_binds_none = simp (visit-at)

-- 1 under a note that binds Str
note_that_binds : row_at (visit (tree 1 (op.Noted x) [] (one ∷ [])) 0 some_known) ≡
    is 0 str_type (Equal str_type int_type ∷ []) []
note_that_binds = simp (visit-at)

-- the third declared name, primed
declared_name : row_at (visit (tree 1 (op.Name 2 true) [] []) 0 nothing_known) ≡
    is 0 (var 2) [] []
declared_name = simp (visit-at)

-- x, bound around it as a text, and further outside as a number
bound_name : row_at (visit (tree 1 (op.Bound x) [] []) 0 some_known) ≡
    is 0 str_type [] []
bound_name = simp (visit-at)
