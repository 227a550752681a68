-- One example or more for each row of the table of shapes, by computing: at 8 bits, so from -128 to 127.
use Rattle.std.proofs.Common.{◌≡◌, true, false, [], ◌∷◌}
use Rattle.tla_meaning.specs.declared.expr.Expr.{Expr}
use Rattle.tla_meaning.specs.declared.op.Op.TheVariants as op
use Rattle.kernel_trees.specs.TypeKinds as kind
use Rattle.kernel_trees.specs.TypeKinds.{no_kinds, no_fields}
use Rattle.kernel_shapes.specs.Shape.{Atom, Set, Fun, Rec, Tup, Seq, Empty, shapes}
use Rattle.kernel_shapes.proofs.TreeLemmas.{size-roll, shape-roll, literal-roll}
use Rattle.kernel_shapes.proofs.ExampleTrees.{leaf, tree, binding, number, from_to, from_minus, name, a, b, old, of_types, shape, shape_in}

-- ---- literals

one_number : shape_in (number 1 5) [] ≡ from_to 5 5
one_number = simp (shape-roll)

-- an end outside the width is moved to the nearest of the width
too_great : shape_in (number 1 300) [] ≡ from_to 127 127
too_great = simp (shape-roll)

one_truth : shape (op.Bool true) [] ≡ Atom
one_truth = simp (shape-roll)

one_text : shape (op.Str a) [] ≡ Atom
one_text = simp (shape-roll)

-- ---- arithmetic

sum : shape op.Add (from_to 1 5 ∷ from_minus 2 100 ∷ []) ≡ from_minus 1 105
sum = simp (shape-roll)

sum_moved : shape op.Add (from_to 1 5 ∷ from_to 100 125 ∷ []) ≡ from_to 101 127
sum_moved = simp (shape-roll)

difference : shape op.Sub (from_to 1 5 ∷ from_to 2 9 ∷ []) ≡ from_minus 8 3
difference = simp (shape-roll)

product : shape op.Mul (from_minus 2 3 ∷ from_minus 5 4 ∷ []) ≡ from_minus 15 12
product = simp (shape-roll)

negation : shape op.Neg (from_minus 2 3 ∷ []) ≡ from_minus 3 2
negation = simp (shape-roll)

of_nothing : shape op.Add (from_to 1 5 ∷ Empty ∷ []) ≡ Empty
of_nothing = simp (shape-roll)

-- the third power: -2 to 3, then -6 to 9, then -18 to 27
third_power : shape_in (tree 9 op.Pow (name 0 ∷ number 1 3 ∷ [])) (from_minus 2 3 ∷ []) ≡ from_minus 18 27
third_power = simp (shape-roll, literal-roll)

-- the first power moves no end, and an interval may be upside down
first_power : shape_in (tree 9 op.Pow (name 0 ∷ number 1 1 ∷ [])) (from_to 9 5 ∷ []) ≡ from_to 9 5
first_power = simp (shape-roll, literal-roll)

quotient : shape op.Div (from_minus 7 5 ∷ from_to 2 3 ∷ []) ≡ from_minus 7 7
quotient = simp (shape-roll)

remainder : shape op.Mod (from_minus 7 5 ∷ from_to 2 6 ∷ []) ≡ from_to 0 5
remainder = simp (shape-roll)

remainder_least : shape op.Mod (from_to 1 5 ∷ from_minus 3 0 ∷ []) ≡ from_to 0 0
remainder_least = simp (shape-roll)

-- ---- sets

size : shape op.Cardinality (Set 3 Atom ∷ []) ≡ from_to 0 3
size = simp (shape-roll)

size_moved : shape op.Cardinality (Set 200 Atom ∷ []) ≡ from_to 0 127
size_moved = simp (shape-roll)

size_of_nothing : shape op.Cardinality (Empty ∷ []) ≡ from_to 0 0
size_of_nothing = simp (shape-roll)

enumeration : shape op.SetEnum (from_to 1 1 ∷ from_to 5 6 ∷ Empty ∷ []) ≡ Set 3 (from_to 1 6)
enumeration = simp (shape-roll)

enumeration_of_none : shape op.SetEnum [] ≡ Set 0 Empty
enumeration_of_none = simp (shape-roll)

range : shape op.Range (from_to 2 4 ∷ from_to 1 6 ∷ []) ≡ Set 5 (from_to 2 6)
range = simp (shape-roll)

range_of_none : shape op.Range (from_to 5 9 ∷ from_to 1 3 ∷ []) ≡ Set 0 (from_to 5 3)
range_of_none = simp (shape-roll)

range_of_nothing : shape op.Range (from_to 5 9 ∷ Empty ∷ []) ≡ Set 0 Empty
range_of_nothing = simp (shape-roll)

union : shape op.Cup (Set 2 (from_to 1 4) ∷ Set 3 (from_to 3 9) ∷ []) ≡ Set 5 (from_to 1 9)
union = simp (shape-roll)

union_with_nothing : shape op.Cup (Empty ∷ Set 3 (from_to 3 9) ∷ []) ≡ Set 3 (from_to 3 9)
union_with_nothing = simp (shape-roll)

intersection : shape op.Cap (Set 2 (from_to 1 4) ∷ Set 3 (from_to 3 9) ∷ []) ≡ Set 2 (from_to 1 4)
intersection = simp (shape-roll)

without : shape op.Minus (Set 2 (from_to 1 4) ∷ Set 3 (from_to 3 9) ∷ []) ≡ Set 2 (from_to 1 4)
without = simp (shape-roll)

-- {b \in S : TRUE}
filtered : shape_in (binding 9 op.Filter (b ∷ []) (name 0 ∷ leaf 3 (op.Bool true) ∷ [])) (Set 2 (from_to 1 4) ∷ []) ≡ Set 2 (from_to 1 4)
filtered = simp (shape-roll)

-- {a + b : a \in S, b \in T}
mapped : shape_in (binding 9 op.MapTo (a ∷ b ∷ []) (name 0 ∷ name 1 ∷ tree 3 op.Add (leaf 4 (op.Bound a) ∷ leaf 5 (op.Bound b) ∷ []) ∷ []))
    (Set 2 (from_to 1 4) ∷ Set 3 (from_to 10 20) ∷ []) ≡ Set 6 (from_to 11 24)
mapped = simp (size-roll, shape-roll)

-- [b \in S |-> b + b], [a \in S, b \in T |-> a]
function : shape_in (binding 9 op.Lambda (b ∷ []) (name 0 ∷ tree 3 op.Add (leaf 4 (op.Bound b) ∷ leaf 5 (op.Bound b) ∷ []) ∷ []))
    (Set 2 (from_to 1 4) ∷ []) ≡ Fun 2 (from_to 1 4) (from_to 2 8)
function = simp (size-roll, shape-roll)

function_of_two : shape_in (binding 9 op.Lambda (a ∷ b ∷ []) (name 0 ∷ name 1 ∷ leaf 4 (op.Bound a) ∷ []))
    (Set 2 (from_to 1 4) ∷ Set 3 Atom ∷ []) ≡ Fun 6 (Tup (shapes (from_to 1 4 ∷ Atom ∷ []))) (from_to 1 4)
function_of_two = simp (size-roll, shape-roll)

-- [b: S, a: T] and S \X T: the fields stand in the order of their bytes
records : shape (op.RecSet (b ∷ a ∷ [])) (Set 2 (from_to 1 4) ∷ Set 3 Atom ∷ [])
    ≡ Set 6 (Rec (a ∷ b ∷ []) (shapes (Atom ∷ from_to 1 4 ∷ [])))
records = simp (shape-roll)

tuples : shape op.Product (Set 2 (from_to 1 4) ∷ Set 3 Atom ∷ []) ≡ Set 6 (Tup (shapes (from_to 1 4 ∷ Atom ∷ [])))
tuples = simp (shape-roll)

-- UNION of 3 sets of 2
big_union : shape op.BigUnion (Set 3 (Set 2 (from_to 1 4)) ∷ []) ≡ Set 6 (from_to 1 4)
big_union = simp (shape-roll)

subsets : shape op.Powerset (Set 3 (from_to 1 4) ∷ []) ≡ Set 8 (Set 3 (from_to 1 4))
subsets = simp (shape-roll)

functions : shape op.FunSet (Set 3 Atom ∷ Set 2 (from_to 1 4) ∷ []) ≡ Set 8 (Fun 3 Atom (from_to 1 4))
functions = simp (shape-roll)

-- there is a function from the empty set to the empty set
functions_to_none : shape op.FunSet (Set 3 Atom ∷ Set 0 Empty ∷ []) ≡ Set 1 (Fun 3 Atom Empty)
functions_to_none = simp (shape-roll)

truths : shape op.BooleanSet [] ≡ Set 2 Atom
truths = simp (shape-roll)

-- ---- choices

chosen : shape op.If (Atom ∷ from_to 1 4 ∷ from_to 10 12 ∷ []) ≡ from_to 1 12
chosen = simp (shape-roll)

-- CASE with and without OTHER: guards are passed over
case_chosen : shape (op.Case false) (Atom ∷ from_to 1 4 ∷ Atom ∷ from_to 10 12 ∷ []) ≡ from_to 1 12
case_chosen = simp (shape-roll)

case_chosen_or_other : shape (op.Case true) (Atom ∷ from_to 1 4 ∷ from_to 10 12 ∷ []) ≡ from_to 1 12
case_chosen_or_other = simp (shape-roll)

no_case : shape (op.Case false) [] ≡ Empty
no_case = simp (shape-roll)

-- ---- functions, sequences, tuples, records

applied : shape op.Apply (Fun 3 (from_to 1 3) Atom ∷ from_to 2 2 ∷ []) ≡ Atom
applied = simp (shape-roll, literal-roll)

sequence_applied : shape op.Apply (Seq 3 (from_to 1 3) ∷ from_to 2 2 ∷ []) ≡ from_to 1 3
sequence_applied = simp (shape-roll, literal-roll)

-- t[2] of a pair, r["b"] and r.b of a record
tuple_applied : shape_in (tree 9 op.Apply (name 0 ∷ number 3 2 ∷ [])) (Tup (shapes (Atom ∷ from_to 1 3 ∷ [])) ∷ []) ≡ from_to 1 3
tuple_applied = simp (shape-roll, literal-roll)

record_applied : shape_in (tree 9 op.Apply (name 0 ∷ leaf 3 (op.Str b) ∷ [])) (Rec (a ∷ b ∷ []) (shapes (Atom ∷ from_to 1 3 ∷ [])) ∷ []) ≡ from_to 1 3
record_applied = simp (shape-roll, literal-roll)

field : shape (op.Field b) (Rec (a ∷ b ∷ []) (shapes (Atom ∷ from_to 1 3 ∷ [])) ∷ []) ≡ from_to 1 3
field = simp (shape-roll)

head : shape op.Head (Seq 3 (from_to 1 3) ∷ []) ≡ from_to 1 3
head = simp (shape-roll)

domain : of_types (kind.Set kind.Truth ∷ kind.Fun kind.Truth kind.Truth ∷ []) op.Domain (Fun 3 (from_to 4 9) Atom ∷ []) ≡ Set 3 (from_to 4 9)
domain = simp (size-roll, shape-roll)

domain_of_sequence : of_types (kind.Set kind.Number ∷ kind.Seq kind.Truth ∷ []) op.Domain (Seq 3 Atom ∷ []) ≡ Set 3 (from_to 1 3)
domain_of_sequence = simp (size-roll, shape-roll)

domain_of_tuple : of_types (kind.Set kind.Number ∷ kind.Tup no_kinds ∷ []) op.Domain (Tup (shapes (Atom ∷ Atom ∷ [])) ∷ []) ≡ Set 2 (from_to 1 2)
domain_of_tuple = simp (size-roll, shape-roll)

domain_of_record : of_types (kind.Set (kind.Word []) ∷ kind.Rec no_fields ∷ []) op.Domain (Rec (a ∷ b ∷ []) (shapes (Atom ∷ Atom ∷ [])) ∷ []) ≡ Set 2 Atom
domain_of_record = simp (size-roll, shape-roll)

-- where no value is, the type says of what the domain is
domain_of_nothing : of_types (kind.Set kind.Number ∷ kind.Seq kind.Truth ∷ []) op.Domain (Empty ∷ []) ≡ Set 0 (from_to 1 0)
domain_of_nothing = simp (size-roll, shape-roll)

merged : shape op.Merge (Fun 3 (from_to 1 3) (from_to 5 6) ∷ Fun 2 (from_to 2 9) (from_to 1 1) ∷ []) ≡ Fun 5 (from_to 1 9) (from_to 1 6)
merged = simp (shape-roll)

single : shape op.Single (from_to 1 3 ∷ Atom ∷ []) ≡ Fun 1 (from_to 1 3) Atom
single = simp (shape-roll)

record_of_two : shape (op.Record (b ∷ a ∷ [])) (from_to 1 3 ∷ Atom ∷ []) ≡ Rec (a ∷ b ∷ []) (shapes (Atom ∷ from_to 1 3 ∷ []))
record_of_two = simp (shape-roll)

-- <<x, y>> by its type
tuple : of_types (kind.Tup no_kinds ∷ []) op.Tuple (from_to 1 3 ∷ Atom ∷ []) ≡ Tup (shapes (from_to 1 3 ∷ Atom ∷ []))
tuple = simp (shape-roll)

sequence : of_types (kind.Seq kind.Number ∷ []) op.Tuple (from_to 1 3 ∷ from_to 7 9 ∷ []) ≡ Seq 2 (from_to 1 9)
sequence = simp (shape-roll)

length : shape op.Len (Seq 3 Atom ∷ []) ≡ from_to 0 3
length = simp (shape-roll)

append : shape op.Append (Seq 3 (from_to 1 3) ∷ from_to 7 9 ∷ []) ≡ Seq 4 (from_to 1 9)
append = simp (shape-roll)

concatenation : shape op.Concat (Seq 3 (from_to 1 3) ∷ Seq 2 (from_to 7 9) ∷ []) ≡ Seq 5 (from_to 1 9)
concatenation = simp (shape-roll)

tail : shape op.Tail (Seq 3 (from_to 1 3) ∷ []) ≡ Seq 3 (from_to 1 3)
tail = simp (shape-roll)

part : shape op.SubSeq (Seq 3 (from_to 1 3) ∷ from_to 1 1 ∷ from_to 2 2 ∷ []) ≡ Seq 3 (from_to 1 3)
part = simp (shape-roll)

-- ---- EXCEPT: [f EXCEPT ![1] = e]
abbrev updated : Expr → Expr → Expr
updated i e = binding 9 (op.Except (1 ∷ [])) (old ∷ []) (name 0 ∷ i ∷ e ∷ [])

updated_function : shape_in (updated (number 3 1) (name 1)) (Fun 3 (from_to 1 3) (from_to 0 2) ∷ from_to 7 7 ∷ []) ≡ Fun 3 (from_to 1 3) (from_to 0 7)
updated_function = simp (shape-roll, literal-roll)

updated_sequence : shape_in (updated (number 3 1) (name 1)) (Seq 3 (from_to 0 2) ∷ from_to 7 7 ∷ []) ≡ Seq 3 (from_to 0 7)
updated_sequence = simp (shape-roll, literal-roll)

updated_tuple : shape_in (updated (number 3 2) (name 1)) (Tup (shapes (Atom ∷ from_to 0 2 ∷ [])) ∷ from_to 7 7 ∷ []) ≡ Tup (shapes (Atom ∷ from_to 0 7 ∷ []))
updated_tuple = simp (shape-roll, literal-roll)

updated_record : shape_in (updated (leaf 3 (op.Str b)) (name 1)) (Rec (a ∷ b ∷ []) (shapes (Atom ∷ from_to 0 2 ∷ [])) ∷ from_to 7 7 ∷ [])
    ≡ Rec (a ∷ b ∷ []) (shapes (Atom ∷ from_to 0 7 ∷ []))
updated_record = simp (shape-roll, literal-roll)

updated_nothing : shape_in (updated (number 3 1) (name 1)) (Empty ∷ from_to 7 7 ∷ []) ≡ Empty
updated_nothing = simp (shape-roll, literal-roll)

-- the name that it binds has the shape of the old value at the path: [f EXCEPT ![1] = @ + @]
updated_by_old : shape_in (updated (number 3 1) (tree 4 op.Add (leaf 5 (op.Bound old) ∷ leaf 6 (op.Bound old) ∷ []))) (Fun 3 (from_to 1 3) (from_to 1 2) ∷ [])
    ≡ Fun 3 (from_to 1 3) (from_to 1 4)
updated_by_old = simp (size-roll, shape-roll, literal-roll)

-- ---- folds: FoldSeq(LAMBDA a, b: a + b, 5, x) over at most 2 places is 5, or 6 to 15, or 7 to 25

fold : shape_in (binding 9 op.Fold (a ∷ b ∷ []) (tree 3 op.Add (leaf 4 (op.Bound a) ∷ leaf 5 (op.Bound b) ∷ []) ∷ name 0 ∷ name 1 ∷ []))
    (from_to 5 5 ∷ Seq 2 (from_to 1 10) ∷ []) ≡ from_to 5 25
fold = simp (size-roll, shape-roll)
