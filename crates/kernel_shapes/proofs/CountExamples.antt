-- The numbers that count in small trees, by the position of a set, and the refusals that they make, by computing: at 32 bits.
use Rattle.std.proofs.Common.{◌≡◌, ℕ, ◌+◌, ◌^◌, true, false, List, [], ◌∷◌, Some, None, refl, ap}
use Rattle.tla_meaning.specs.declared.expr.Expr.{Expr, out-roll-Expr}
use Rattle.tla_meaning.specs.declared.op.Op.TheVariants as op
use Rattle.kernel_shapes.specs.Shape.{Shape, Set, Fun, Rec, Seq, Empty, shapes}
use Rattle.kernel_shapes.specs.Counts.{refusal}
use Rattle.kernel_shapes.specs.Sized.{walked, as_form, assigned_from, picked_from}
use Rattle.kernel_shapes.specs.Trees.{tree_sized}
use Rattle.kernel_shapes.specs.Levels.{Parts, Equals, next_shapes, start_shapes, level_numbers}
use Rattle.kernel_shapes.proofs.TreeLemmas.{size-roll, shape-roll, counts-roll, literal-roll, beyond-roll}
use Rattle.kernel_shapes.proofs.ExampleTrees.{leaf, tree, binding, number, from_to, name, a, b, old, counts_in, members, places}

-- ---- sets that are walked or not

-- 1..n, whose dots stand at column c + 1
abbrev up_to : ℕ → ℕ → Expr
up_to c n = tree (c + 1) op.Range (number c 1 ∷ number (c + 3) n ∷ [])

-- SUBSET (1..n)
abbrev subsets : ℕ → Expr
subsets n = tree 17 op.Powerset (up_to 25 n ∷ [])

subsets_16 : counts_in walked (subsets 16) [] ≡ members 17 65536 ∷ members 26 16 ∷ []
subsets_16 = simp (size-roll, shape-roll, counts-roll)

subsets_17 : counts_in walked (subsets 17) [] ≡ members 17 131072 ∷ members 26 17 ∷ []
subsets_17 = simp (size-roll, shape-roll, counts-roll)

-- no refusal of 16, and 131072 members at the SUBSET of 17
accepted_16 : refusal (counts_in walked (subsets 16) []) ≡ None
accepted_16 = ap refusal subsets_16

refused_17 : refusal (counts_in walked (subsets 17) []) ≡ Some (members 17 131072)
refused_17 = ap refusal subsets_17

-- in a form position it has no number, nor as the domain of an \E on a path; its operand has in each case
form_17 : counts_in as_form (subsets 17) [] ≡ members 26 17 ∷ []
form_17 = simp (size-roll, shape-roll, counts-roll)

picked_17 : counts_in picked_from (subsets 17) [] ≡ members 26 17 ∷ []
picked_17 = simp (size-roll, shape-roll, counts-roll)

-- x \in SUBSET (1..17), of a set x
member_17 : counts_in walked (tree 5 op.In (name 0 ∷ subsets 17 ∷ [])) (Set 3 (from_to 1 3) ∷ []) ≡ members 0 3 ∷ members 26 17 ∷ []
member_17 = simp (size-roll, shape-roll, counts-roll)

-- \A a \in SUBSET x: a = a walks the subsets of the 17 members of x, and a has 17 members wherever it stands
every_17 : counts_in walked (binding 1 op.Forall (a ∷ []) (tree 17 op.Powerset (name 0 ∷ []) ∷ tree 41 op.Eq (leaf 40 (op.Bound a) ∷ leaf 42 (op.Bound a) ∷ []) ∷ []))
    (Set 17 (from_to 1 17) ∷ []) ≡ members 17 131072 ∷ members 0 17 ∷ members 40 17 ∷ members 42 17 ∷ []
every_17 = simp (size-roll, shape-roll, counts-roll)

-- [1..3 -> SUBSET (1..2)]
abbrev function_set : Expr
function_set = tree 20 op.FunSet (up_to 10 3 ∷ tree 30 op.Powerset (up_to 40 2 ∷ []) ∷ [])

-- walked: 4^3 functions
function_walked : counts_in walked function_set [] ≡ members 20 64 ∷ members 11 3 ∷ members 30 4 ∷ members 41 2 ∷ []
function_walked = simp (size-roll, shape-roll, counts-roll)

-- as S of an assignment neither it nor the SUBSET has a number; as the domain of an \E on a path the SUBSET has
function_assigned : counts_in assigned_from function_set [] ≡ members 11 3 ∷ members 41 2 ∷ []
function_assigned = simp (size-roll, shape-roll, counts-roll)

function_picked : counts_in picked_from function_set [] ≡ members 11 3 ∷ members 30 4 ∷ members 41 2 ∷ []
function_picked = simp (size-roll, shape-roll, counts-roll)

-- SUBSET (SUBSET (1..2)): where a member of it is assigned, the inner SUBSET is walked
abbrev twice : Expr
twice = tree 20 op.Powerset (tree 30 op.Powerset (up_to 40 2 ∷ []) ∷ [])

twice_form : counts_in as_form twice [] ≡ members 41 2 ∷ []
twice_form = simp (size-roll, shape-roll, counts-roll)

twice_assigned : counts_in assigned_from twice [] ≡ members 30 4 ∷ members 41 2 ∷ []
twice_assigned = simp (size-roll, shape-roll, counts-roll)

-- ---- intervals that are upside down

-- \A i \in 100000..5: 1..i^1 = {}: no range has a member, while a product with 1 would turn the interval over
abbrev power_below : Expr → Expr
power_below e = binding 1 op.Forall (a ∷ [])
    (tree 13 op.Range (number 7 100000 ∷ number 15 5 ∷ []) ∷ tree 25 op.Eq (tree 20 op.Range (number 19 1 ∷ e ∷ []) ∷ tree 27 op.SetEnum [] ∷ []) ∷ [])

first_power : counts_in walked (power_below (tree 23 op.Pow (leaf 22 (op.Bound a) ∷ number 24 1 ∷ []))) []
    ≡ members 13 0 ∷ members 20 5 ∷ members 27 0 ∷ []
first_power = simp (size-roll, shape-roll, counts-roll, literal-roll)

once_the_number : counts_in walked (power_below (tree 23 op.Mul (number 22 1 ∷ leaf 24 (op.Bound a) ∷ []))) []
    ≡ members 13 0 ∷ members 20 100000 ∷ members 27 0 ∷ []
once_the_number = simp (size-roll, shape-roll, counts-roll)

-- ---- EXCEPT

-- x is a record with a function of 70000 arguments at a
abbrev great : List Shape
great = Rec (a ∷ []) (shapes (Fun 70000 (from_to 1 70000) (from_to 0 0) ∷ [])) ∷ []

-- [x EXCEPT !.a[1] = 5] has no number
along_a_path : counts_in walked (binding 9 (op.Except (2 ∷ [])) (old ∷ []) (name 0 ∷ leaf 14 (op.Str a) ∷ number 16 1 ∷ number 20 5 ∷ [])) great ≡ []
along_a_path = simp (size-roll, shape-roll, counts-roll, literal-roll, out-roll-Expr)

-- nor has it with its path in parts, at one place
abbrev inner_at : ℕ → Expr
inner_at c = binding c (op.Except (1 ∷ [])) (old ∷ []) (leaf 30 (op.Bound old) ∷ number 16 1 ∷ number 20 5 ∷ [])

abbrev in_parts_at : ℕ → Expr
in_parts_at c = binding 9 (op.Except (1 ∷ [])) (old ∷ []) (name 0 ∷ leaf 14 (op.Str a) ∷ inner_at c ∷ [])

in_parts : counts_in walked (in_parts_at 9) great ≡ []
in_parts = simp (size-roll, shape-roll, counts-roll, literal-roll, beyond-roll, out-roll-Expr)

-- at another place it is a right side as any other
another : counts_in walked (in_parts_at 8) great ≡ members 8 70000 ∷ members 30 70000 ∷ []
another = simp (size-roll, shape-roll, counts-roll, literal-roll, out-roll-Expr)

-- the function's own number counts, at the EXCEPT and at the function
updated_function : counts_in walked (binding 9 (op.Except (1 ∷ [])) (old ∷ []) (name 0 ∷ number 12 1 ∷ number 17 7 ∷ [])) (Fun 3 (from_to 1 3) (from_to 0 2) ∷ [])
    ≡ members 9 3 ∷ members 0 3 ∷ []
updated_function = simp (size-roll, shape-roll, counts-roll, literal-roll, out-roll-Expr)

-- ---- folds: the body counts at each step

-- FoldSeq(LAMBDA a, b: Append(a, b), y, x) over at most 2 places
appended : counts_in walked (binding 9 op.Fold (a ∷ b ∷ []) (tree 20 op.Append (leaf 27 (op.Bound a) ∷ leaf 30 (op.Bound b) ∷ []) ∷ name 0 ∷ name 1 ∷ []))
    (Seq 0 Empty ∷ Seq 2 (from_to 4 5) ∷ [])
    ≡ places 9 2 ∷ places 0 0 ∷ places 1 2 ∷ places 20 1 ∷ places 27 0 ∷ places 20 2 ∷ places 27 1 ∷ []
appended = simp (size-roll, shape-roll, counts-roll)

-- ---- refusals: the least place, members before places, the greatest number, at most 10^12

refused_tie : refusal (members 9 99999 ∷ places 5 5000 ∷ members 5 70000 ∷ members 5 80000 ∷ members 3 65536 ∷ places 2 4096 ∷ []) ≡ Some (members 5 80000)
refused_tie = refl

refused_long : refusal (places 5 5000 ∷ places 5 4097 ∷ members 7 70000 ∷ []) ≡ Some (places 5 5000)
refused_long = refl

refused_capped : refusal (members 5 (2 ^ 100) ∷ []) ≡ Some (members 5 1000000000000)
refused_capped = refl

-- ---- levels: x = 1, x' = x + 1 at 4 bits, and the range 1..x in the invariant

abbrev counter : Parts
counter = record {
  fixed = false ∷ [];
  constants = [] ∷ [];
  assume = (tree_sized 4 (leaf 1 (op.Bool true))).sizing [];
  start = (Equals 0 ((tree_sized 4 (number 12 1)).sizing []) ∷ []) ∷ [];
  next = (Equals 0 ((tree_sized 4 (tree 15 op.Add (name 0 ∷ number 17 1 ∷ []))).sizing []) ∷ []) ∷ [];
  invariants = (tree_sized 4 (tree 20 op.Range (number 19 1 ∷ name 0 ∷ []))).sizing [] ∷ [];
}

level_0 : start_shapes counter ≡ from_to 1 1 ∷ []
level_0 = simp (shape-roll)

level_1 : next_shapes counter (from_to 1 1 ∷ []) ≡ from_to 2 2 ∷ []
level_1 = simp (size-roll, shape-roll)

-- past the width the ends stay at its end
level_7 : next_shapes counter (from_to 7 7 ∷ []) ≡ from_to 7 7 ∷ []
level_7 = simp (size-roll, shape-roll)

-- the range has 4 members where x is 4
numbers_there : level_numbers counter [] (from_to 4 4 ∷ []) 0 ≡ members 20 4 ∷ []
numbers_there = simp (size-roll, shape-roll, counts-roll)
