-- Kinds, soundness and meanings of small trees, by computing.
use Rattle.std.proofs.Common.{◌≡◌, ℕ, Bool, true, false, List, [], ◌∷◌, pos, Some, None}
use Rattle.tla_values.specs.declared.value.Value.TheVariants as value
use Rattle.tla_meaning.specs.declared.place.Place.{Place}
use Rattle.snowcat_rows.specs.declared.types.Ty.{Ty, Bool as bool_ty, Int as int_ty, Str as str_ty, Named as named_ty, Var as var_ty, Set as set_ty, Seq as seq_ty, Fun as fun_ty, Tup as tup_ty, Rec as rec_ty}
use Rattle.kernel_trees.specs.declared.kernel.Ker.{Ker, roll-Ker, out-roll-Ker}
use Rattle.kernel_trees.specs.declared.kernel.KerOp.{KerOp}
use Rattle.kernel_trees.specs.declared.kernel.KerOp.TheVariants as ker
use Rattle.kernel_trees.specs.declared.path.PathStep.TheVariants as path
use Rattle.kernel_trees.specs.declared.path.AssignedStep.TheVariants as mark
use Rattle.kernel_trees.specs.TypeKinds.{Kind, Truth, Number, Word, Set, Seq, Rec, fields, kind_of}
use Rattle.kernel_trees.specs.Sound.{infinite_places, sound, sound_assigned, sound_path, sound_tree}
use Rattle.kernel_trees.proofs.TypeLaws.{type_kinds}
use Rattle.kernel_trees.proofs.SoundNodes.{sound-roll, infinite-roll}
use Rattle.kernel_trees.proofs.Scopes.{scoped-roll}

abbrev at : ℕ → Place
at n = record { file = 0; line = 1; col = n }

abbrev tree : Ty → KerOp → List Ker → List ℕ → Ker
tree a o ks xs = roll-Ker (record { place = at 1; ty = a; op = o; args = ks; binds = xs })

abbrev number : ℕ → Ker
number i = tree int_ty (ker.Const (value.Int (pos i))) [] []

abbrev truth : Bool → Ker
truth b = tree bool_ty (ker.Const (value.Bool b)) [] []

abbrev text : Ty → List ℕ → Ker
text a x = tree a (ker.Const (value.Text x)) [] []

abbrev name : Ty → ℕ → Ker
name a i = tree a (ker.Name i false) [] []

abbrev bound : Ty → ℕ → Ker
bound a n = tree a (ker.Bound n) [] []

abbrev ints : Ty
ints = set_ty int_ty

-- ---- kinds

-- {b: Int, a: Bool} and {a: Bool, b: Int} are one kind
one_record : kind_of (rec_ty ((98 ∷ [], int_ty) ∷ (97 ∷ [], bool_ty) ∷ []) None) ≡ Some (Rec (fields ((97 ∷ [], Truth) ∷ (98 ∷ [], Number) ∷ [])))
one_record = simp (type_kinds)

-- {a: Int, a: Bool} has none
two_fields : kind_of (rec_ty ((97 ∷ [], int_ty) ∷ (97 ∷ [], bool_ty) ∷ []) None) ≡ None
two_fields = simp (type_kinds)

-- nor has a text's type without a name
no_name : kind_of (named_ty []) ≡ None
no_name = simp (type_kinds)

-- Set(a0) and an open record have none
variable : kind_of (set_ty (var_ty 0)) ≡ None
variable = simp (type_kinds)

open_record : kind_of (rec_ty [] (Some 0)) ≡ None
open_record = simp (type_kinds)

-- ---- nodes

-- 1 + 2, and 1 + TRUE
plus : sound [] (tree int_ty ker.Plus (number 1 ∷ number 2 ∷ []) []) [] false ≡ true
plus = simp (sound-roll, type_kinds, out-roll-Ker, value.outs-Int)

plus_truth : sound [] (tree int_ty ker.Plus (number 1 ∷ truth true ∷ []) []) [] false ≡ false
plus_truth = simp (sound-roll, type_kinds, out-roll-Ker)

-- a name past the types, and one of another type
past : sound (Number ∷ []) (name int_ty 1) [] false ≡ false
past = simp (sound-roll, type_kinds)

other : sound (Number ∷ []) (name bool_ty 0) [] false ≡ false
other = simp (sound-roll, type_kinds)

-- 1..x bounded by 1 and 9, and by x twice
bounded : sound (Number ∷ []) (tree ints ker.Range (number 1 ∷ name int_ty 0 ∷ number 1 ∷ number 9 ∷ []) []) [] false ≡ true
bounded = simp (sound-roll, type_kinds, out-roll-Ker, value.outs-Int)

bounded_by_names : sound (Number ∷ []) (tree ints ker.Range (number 1 ∷ name int_ty 0 ∷ name int_ty 0 ∷ name int_ty 0 ∷ []) []) [] false ≡ false
bounded_by_names = simp (sound-roll, type_kinds, out-roll-Ker)

-- a bound has no children of its own
bounded_by_children : sound [] (tree ints ker.Range (number 1 ∷ number 2 ∷ number 1 ∷ tree int_ty (ker.Const (value.Int (pos 9))) (tree ints ker.IntForm [] [] ∷ []) [] ∷ []) []) [] false ≡ false
bounded_by_children = simp (sound-roll, type_kinds, out-roll-Ker, value.outs-Int)

-- Int stands right of \in alone
in_form : sound [] (tree bool_ty ker.Member (number 1 ∷ tree ints ker.IntForm [] [] ∷ []) []) [] false ≡ true
in_form = simp (sound-roll, type_kinds, out-roll-Ker, value.outs-Int)

left_of_in : sound [] (tree bool_ty ker.Equal (tree ints ker.IntForm [] [] ∷ tree ints ker.IntForm [] [] ∷ []) []) [] false ≡ false
left_of_in = simp (sound-roll, type_kinds, out-roll-Ker)

-- STRING is a set of Str, and of no uninterpreted type
texts : sound [] (tree (set_ty str_ty) ker.TextForm [] []) [] true ≡ true
texts = simp (sound-roll, type_kinds)

named_texts : sound [] (tree (set_ty (named_ty (65 ∷ []))) ker.TextForm [] []) [] true ≡ false
named_texts = simp (sound-roll, type_kinds)

-- ---- updates: [r EXCEPT !.a = 1], of a record {a: Int}, at the literal, and at a text that is no literal

abbrev pair_ty : Ty
pair_ty = rec_ty ((97 ∷ [], int_ty) ∷ []) None

abbrev pair_kind : Kind
pair_kind = Rec (fields ((97 ∷ [], Number) ∷ []))

at_literal : sound (pair_kind ∷ []) (tree pair_ty ker.Update (name pair_ty 0 ∷ text str_ty (97 ∷ []) ∷ number 1 ∷ []) (5 ∷ [])) [] false ≡ true
at_literal = simp (sound-roll, type_kinds, out-roll-Ker, value.outs-Text, value.outs-Int)

at_name : sound (pair_kind ∷ Word [] ∷ []) (tree pair_ty ker.Update (name pair_ty 0 ∷ name str_ty 1 ∷ number 1 ∷ []) (5 ∷ [])) [] false ≡ false
at_name = simp (sound-roll, type_kinds, out-roll-Ker)

-- the literal's type may be an uninterpreted one, as that of a field a_OF_B
at_named_literal : sound (pair_kind ∷ []) (tree pair_ty ker.Update (name pair_ty 0 ∷ text (named_ty (66 ∷ [])) (97 ∷ []) ∷ number 1 ∷ []) (5 ∷ [])) [] false ≡ true
at_named_literal = simp (sound-roll, type_kinds, out-roll-Ker, value.outs-Text, value.outs-Int)

-- no field of that name
no_field : sound (pair_kind ∷ []) (tree pair_ty ker.Update (name pair_ty 0 ∷ text str_ty (98 ∷ []) ∷ number 1 ∷ []) (5 ∷ [])) [] false ≡ false
no_field = simp (sound-roll, type_kinds, out-roll-Ker, value.outs-Text)

-- the number stands for the old value
old_value : sound (pair_kind ∷ []) (tree pair_ty ker.Update (name pair_ty 0 ∷ text str_ty (97 ∷ []) ∷ bound int_ty 5 ∷ []) (5 ∷ [])) [] false ≡ true
old_value = simp (sound-roll, type_kinds, out-roll-Ker, value.outs-Text)

-- ---- binders: {x1 \in S : x1 < x2}, with and without x2 in the context

abbrev smaller : Ker
smaller = tree ints ker.Filter (name ints 0 ∷ tree bool_ty ker.Less (bound int_ty 1 ∷ bound int_ty 2 ∷ []) [] ∷ []) (1 ∷ [])

inside : sound_tree (Set Number ∷ []) smaller ((2, Number) ∷ []) false ≡ true
inside = simp (sound-roll, scoped-roll, type_kinds, out-roll-Ker)

alone : sound (Set Number ∷ []) smaller [] false ≡ false
alone = simp (sound-roll, type_kinds, out-roll-Ker)

-- a number that the context binds is not bound again
bound_again : sound_tree (Set Number ∷ []) smaller ((2, Number) ∷ (1, Number) ∷ []) false ≡ false
bound_again = simp (sound-roll, scoped-roll, type_kinds, out-roll-Ker)

-- [x1 \in S, x2 \in S |-> x1 + x2] has pairs for arguments
abbrev sums : Ty → Ker
sums a =
    tree (fun_ty a int_ty) ker.FunOf (name ints 0 ∷ name ints 0 ∷ tree int_ty ker.Plus (bound int_ty 1 ∷ bound int_ty 2 ∷ []) [] ∷ []) (1 ∷ 2 ∷ [])

on_pairs : sound (Set Number ∷ []) (sums (tup_ty (int_ty ∷ int_ty ∷ []))) [] false ≡ true
on_pairs = simp (sound-roll, type_kinds, out-roll-Ker)

on_numbers : sound (Set Number ∷ []) (sums int_ty) [] false ≡ false
on_numbers = simp (sound-roll, type_kinds, out-roll-Ker)

-- the sum of a sequence
abbrev total : Ty → Ker
total a =
    tree int_ty ker.FoldLeft (tree int_ty ker.Plus (bound int_ty 1 ∷ bound int_ty 2 ∷ []) [] ∷ number 0 ∷ name a 0 ∷ []) (1 ∷ 2 ∷ [])

folded : sound (Seq Number ∷ []) (total (seq_ty int_ty)) [] false ≡ true
folded = simp (sound-roll, type_kinds, out-roll-Ker, value.outs-Int)

fold_of_set : sound (Set Number ∷ []) (total ints) [] false ≡ false
fold_of_set = simp (sound-roll, type_kinds, out-roll-Ker, value.outs-Int)

-- ---- paths: a pick from S and a guard on what was picked

picked : sound_path (Set Number ∷ []) [] (path.Pick ((1, name ints 0) ∷ []) ∷ path.Guard (tree bool_ty ker.Less (bound int_ty 1 ∷ number 2 ∷ []) []) true ∷ []) ≡ true
picked = simp (sound-roll, type_kinds, out-roll-Ker, value.outs-Int)

-- a number may be picked again, of another kind too, and then stands for the last pick
picked_again : sound_path (Set Number ∷ Set Truth ∷ []) [] (path.Pick ((1, name ints 0) ∷ []) ∷ path.Pick ((1, name (set_ty bool_ty) 1) ∷ []) ∷ path.Guard (bound bool_ty 1) true ∷ []) ≡ true
picked_again = simp (sound-roll, type_kinds, out-roll-Ker)

-- nothing is read before it is picked, and from sets alone
before_pick : sound_path (Set Number ∷ []) [] (path.Guard (tree bool_ty ker.Less (bound int_ty 1 ∷ number 2 ∷ []) []) true ∷ path.Pick ((1, name ints 0) ∷ []) ∷ []) ≡ false
before_pick = simp (sound-roll, type_kinds, out-roll-Ker)

from_number : sound_path (Number ∷ []) [] (path.Pick ((1, name int_ty 0) ∷ []) ∷ []) ≡ false
from_number = simp (sound-roll, type_kinds, out-roll-Ker)

-- x' \in SUBSET Int takes a member of a form with an infinite part, a filter has no such part
abbrev all_ints : Ker
all_ints = tree (set_ty ints) ker.Subsets (tree ints ker.IntForm [] [] ∷ []) []

infinite_part : infinite_places all_ints ≡ at 1 ∷ []
infinite_part = simp (infinite-roll)

finite_part : infinite_places (tree ints ker.Filter (tree ints ker.IntForm [] [] ∷ truth true ∷ []) (1 ∷ [])) ≡ []
finite_part = simp (infinite-roll)

-- Seq(Nat) has two, [Int -> {}] none
two_places : infinite_places (tree (set_ty (seq_ty int_ty)) ker.SeqForm (tree ints ker.NatForm [] [] ∷ []) []) ≡ at 1 ∷ at 1 ∷ []
two_places = simp (infinite-roll)

of_domain : infinite_places (tree (set_ty (fun_ty int_ty int_ty)) ker.Functions (tree ints ker.IntForm [] [] ∷ tree ints ker.SetOf [] [] ∷ []) []) ≡ []
of_domain = simp (infinite-roll)

from_infinite : sound_assigned (Set Number ∷ []) [] (mark.Among 0 all_ints ∷ []) ≡ false
from_infinite = simp (infinite-roll, type_kinds, out-roll-Ker)

from_subsets : sound_assigned (Set Number ∷ []) [] (mark.Among 0 (tree (set_ty ints) ker.Subsets (name ints 0 ∷ []) []) ∷ []) ≡ true
from_subsets = simp (sound-roll, infinite-roll, type_kinds, out-roll-Ker)
