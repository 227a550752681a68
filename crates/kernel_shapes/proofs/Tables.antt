-- The operators that join their operands: what the table gives fits the row.
use Rattle.std.proofs.Common.{◌≡◌, ℕ, Bool, true, false, not, IsTrue, ◌≤◌, arith, List, [], ◌∷◌, map, Some, ℤ, refl, subst, int_lt, int_le}
use Rattle.tla_values.specs.Order.{Layer, same_value}
use Rattle.tla_values.specs.Sets.{member, apply}
use Rattle.tla_values.specs.declared.value.Value.{Value, out-Value}
use Rattle.tla_values.specs.declared.value.Value.TheVariants as value
use Rattle.tla_values.specs.declared.value.Value.TheOpen as layer
use Rattle.tla_meaning.specs.declared.op.Op.{Op}
use Rattle.tla_meaning.specs.declared.op.Op.TheVariants as op
use Rattle.tla_meaning.specs.declared.place.Place.{Place}
use Rattle.tla_meaning.specs.declared.outcome.Outcome.{Outcome}
use Rattle.tla_meaning.specs.Shapes.{truth}
use Rattle.tla_meaning.specs.Operators.{table, on_truth, on_truths, on_number, on_numbers, on_set, on_sets, on_two, on_function, or_wrong, applied, yes_no}
use Rattle.kernel_shapes.specs.Shape.{Shape, Atom}
use Rattle.kernel_shapes.specs.Rows.{no_literal, text, Row, a_truth, a_sum, a_difference, a_product, a_negation, a_quotient, a_remainder, a_size, an_enumeration, a_range, a_union, a_part, the_subsets, the_truths, an_application, a_field, row_shape}
use Rattle.kernel_shapes.specs.Sized.{Sized, shapes_of, index_of, row_joins}
use Rattle.kernel_shapes.specs.Fits.{Fits, FitAll}
use Rattle.kernel_shapes.proofs.FitLemmas.{IfVal}
use Rattle.kernel_shapes.proofs.Operators.{fits_truth, fits_set, FitLayers, layers_fit, on_number_if, on_numbers_if, on_set_if, on_sets_if, OneNum, TwoNums, OneSet, TwoSets, one_number, two_numbers, one_of_sets, two_of_sets, sum_fits, difference_fits, product_fits, negation_fits, quotient_fits, remainder_fits, range_fits, union_fits, part_fits, subsets_fits, enumeration_fits, cardinality_fits}
use Rattle.kernel_shapes.proofs.Applied.{applied_fits}
use Rattle.kernel_shapes.proofs.Combine.{MeetAll, all_fit, IsTruth, yes_fits}

-- ---- truth values

truth_of_one : (p : Place) (f : Bool → Outcome) (ls : List (Layer Value)) → ((a : Bool) → IsTruth (f a)) → IsTruth (on_truth p f ls)
truth_of_one p f (layer.Bool a ∷ []) h = h a
truth_of_one p f ls h = tt

truth_of_two : (p : Place) (f : Bool → Bool → Outcome) (ls : List (Layer Value)) → ((a b : Bool) → IsTruth (f a b)) → IsTruth (on_truths p f ls)
truth_of_two p f (layer.Bool a ∷ layer.Bool b ∷ []) h = h a b
truth_of_two p f ls h = tt

truth_of_values : (p : Place) (f : Value → Value → Outcome) (vs : List Value) → ((a b : Value) → IsTruth (f a b)) → IsTruth (on_two p f vs)
truth_of_values p f (a ∷ b ∷ []) h = h a b
truth_of_values p f [] h = tt
truth_of_values p f (a ∷ []) h = tt
truth_of_values p f (a ∷ b ∷ c ∷ vs) h = tt

-- ---- the readers, with what their operands fit

at_one : (Q : Value → Type 0) (p : Place) (f : ℤ → Outcome) (as' : List Shape) (vs : List Value) → FitAll as' vs → ((m : ℤ) → OneNum as' m → IfVal Q (f m)) → IfVal Q (on_number p f (map out-Value vs))
at_one Q p f as' vs h k = on_number_if Q p f (map out-Value vs) (λ m e. k m (one_number as' m (subst (FitLayers as') e (layers_fit as' vs h))))

at_two : (Q : Value → Type 0) (p : Place) (f : ℤ → ℤ → Outcome) (as' : List Shape) (vs : List Value) → FitAll as' vs → ((m n : ℤ) → TwoNums as' m n → IfVal Q (f m n)) → IfVal Q (on_numbers p f (map out-Value vs))
at_two Q p f as' vs h k = on_numbers_if Q p f (map out-Value vs) (λ m n e. k m n (two_numbers as' m n (subst (FitLayers as') e (layers_fit as' vs h))))

pub at_set : (Q : Value → Type 0) (p : Place) (f : List Value → Outcome) (as' : List Shape) (vs : List Value) → FitAll as' vs → ((xs : List Value) → OneSet as' xs → IfVal Q (f xs)) → IfVal Q (on_set p f (map out-Value vs))
at_set Q p f as' vs h k = on_set_if Q p f (map out-Value vs) (λ xs e. k xs (one_of_sets as' xs (subst (FitLayers as') e (layers_fit as' vs h))))

pub at_sets : (Q : Value → Type 0) (p : Place) (f : List Value → List Value → Outcome) (as' : List Shape) (vs : List Value) → FitAll as' vs → ((xs ys : List Value) → TwoSets as' xs ys → IfVal Q (f xs ys)) → IfVal Q (on_sets p f (map out-Value vs))
at_sets Q p f as' vs h k = on_sets_if Q p f (map out-Value vs) (λ xs ys e. k xs ys (two_of_sets as' xs ys (subst (FitLayers as') e (layers_fit as' vs h))))

-- ---- the rows

-- what an operator gives of values that fit, by the row r
abbrev pub Gives : ℕ → Place → Op → Row → List Sized → List Value → Type 0
Gives w p o r as' vs = IfVal (Fits (row_shape w r (index_of as') (shapes_of as'))) (table (Some w) p o vs)

pub apply_gives : (w : ℕ) (p : Place) (as' : List Sized) (vs : List Value) → MeetAll as' vs → IsTrue (row_joins an_application (index_of as') (shapes_of as')) → Gives w p op.Apply an_application as' vs
apply_gives w p (a ∷ b ∷ []) (f ∷ i ∷ []) h e = applied_fits p a.shape b.literal (out-Value f) i e h.1.0.1 h.0.0
apply_gives w p as' [] h e = tt
apply_gives w p as' (f ∷ []) h e = tt
apply_gives w p as' (f ∷ i ∷ j ∷ vs) h e = tt
apply_gives w p [] (f ∷ i ∷ []) h e = absurd h
apply_gives w p (a ∷ []) (f ∷ i ∷ []) h e = absurd h.1
apply_gives w p (a ∷ b ∷ c ∷ as') (f ∷ i ∷ []) h e = absurd h.1.1

field_at : (p : Place) (x : List ℕ) (l : Layer Value) (P : Value → Type 0) → IfVal P (applied p l (value.Text x)) → IfVal P (on_function p (λ ps. or_wrong p (apply ps (value.Text x))) (l ∷ []))
field_at p x (layer.Fun ps) P h = h
field_at p x l P h = tt

pub field_gives : (w : ℕ) (p : Place) (x : List ℕ) (as' : List Sized) (vs : List Value) → MeetAll as' vs → IsTrue (row_joins (a_field x) (index_of as') (shapes_of as')) → Gives w p (op.Field x) (a_field x) as' vs
field_gives w p x (a ∷ []) (f ∷ []) h e = field_at p x (out-Value f) _ (applied_fits p a.shape (text x) (out-Value f) (value.Text x) e refl h.0.0)
field_gives w p x as' [] h e = tt
field_gives w p x [] (f ∷ vs) h e = absurd h
field_gives w p x (a ∷ b ∷ as') (f ∷ []) h e = absurd h.1
field_gives w p x (a ∷ []) (f ∷ g ∷ vs) h e = absurd h.1
field_gives w p x (a ∷ b ∷ as') (f ∷ g ∷ vs) h e = more (out-Value f) (out-Value g) (map out-Value vs)
  where
    more : (l m : Layer Value) (ls : List (Layer Value)) → IfVal (Fits (row_shape w (a_field x) (index_of (a ∷ b ∷ as')) (shapes_of (a ∷ b ∷ as')))) (on_function p (λ ps. or_wrong p (apply ps (value.Text x))) (l ∷ m ∷ ls))
    more (layer.Fun ps) m ls = tt
    more (layer.Bool b) m ls = tt
    more (layer.Int b) m ls = tt
    more (layer.Text b) m ls = tt
    more (layer.Set b) m ls = tt

pub not_gives : (w : ℕ) (p : Place) (as' : List Sized) (vs : List Value) → Gives w p op.Not a_truth as' vs
not_gives w p as' vs = truth_of_one p (λ a. yes_no (not a)) (map out-Value vs) (λ a. yes_fits (not a))

pub iff_gives : (w : ℕ) (p : Place) (as' : List Sized) (vs : List Value) → Gives w p op.Iff a_truth as' vs
iff_gives w p as' vs = truth_of_two p _ (map out-Value vs) (λ a b. yes_fits (same_value (truth a) (truth b)))

pub eq_gives : (w : ℕ) (p : Place) (as' : List Sized) (vs : List Value) → Gives w p op.Eq a_truth as' vs
eq_gives w p as' vs = truth_of_values p _ vs (λ a b. yes_fits (same_value a b))

pub ne_gives : (w : ℕ) (p : Place) (as' : List Sized) (vs : List Value) → Gives w p op.Ne a_truth as' vs
ne_gives w p as' vs = truth_of_values p _ vs (λ a b. yes_fits (not (same_value a b)))

pub assign_gives : (w : ℕ) (p : Place) (as' : List Sized) (vs : List Value) → Gives w p op.Assign a_truth as' vs
assign_gives w p as' vs = truth_of_values p _ vs (λ a b. yes_fits (same_value a b))

pub less_gives : (w : ℕ) (p : Place) (as' : List Sized) (vs : List Value) → Gives w p op.Lt a_truth as' vs
less_gives w p as' vs = on_numbers_if _ p _ (map out-Value vs) (λ m n e. yes_fits (int_lt m n))

pub greater_gives : (w : ℕ) (p : Place) (as' : List Sized) (vs : List Value) → Gives w p op.Gt a_truth as' vs
greater_gives w p as' vs = on_numbers_if _ p _ (map out-Value vs) (λ m n e. yes_fits (int_lt n m))

pub at_most_gives : (w : ℕ) (p : Place) (as' : List Sized) (vs : List Value) → Gives w p op.Le a_truth as' vs
at_most_gives w p as' vs = on_numbers_if _ p _ (map out-Value vs) (λ m n e. yes_fits (int_le m n))

pub at_least_gives : (w : ℕ) (p : Place) (as' : List Sized) (vs : List Value) → Gives w p op.Ge a_truth as' vs
at_least_gives w p as' vs = on_numbers_if _ p _ (map out-Value vs) (λ m n e. yes_fits (int_le n m))

pub finite_gives : (w : ℕ) (p : Place) (as' : List Sized) (vs : List Value) → Gives w p op.IsFinite a_truth as' vs
finite_gives w p as' vs = on_set_if _ p _ (map out-Value vs) (λ xs e. yes_fits true)

pub truths_give : (w : ℕ) (p : Place) (as' : List Sized) (vs : List Value) → Gives w p op.BooleanSet the_truths as' vs
truths_give w p as' vs = fits_set 2 Atom (truth false ∷ truth true ∷ []) (two 2 refl) (fits_truth false, (fits_truth true, tt))
  where
    two : (n : ℕ) → n ≡ 2 → 2 ≤ n
    two n e = omega arith

pub sum_gives : (w : ℕ) (p : Place) (as' : List Sized) (vs : List Value) → MeetAll as' vs → Gives w p op.Add a_sum as' vs
sum_gives w p as' vs h = at_two _ p _ (shapes_of as') vs (all_fit as' vs h) (λ m n k. sum_fits w p (index_of as') (shapes_of as') m n k)

pub difference_gives : (w : ℕ) (p : Place) (as' : List Sized) (vs : List Value) → MeetAll as' vs → Gives w p op.Sub a_difference as' vs
difference_gives w p as' vs h = at_two _ p _ (shapes_of as') vs (all_fit as' vs h) (λ m n k. difference_fits w p (index_of as') (shapes_of as') m n k)

pub product_gives : (w : ℕ) (p : Place) (as' : List Sized) (vs : List Value) → MeetAll as' vs → Gives w p op.Mul a_product as' vs
product_gives w p as' vs h = at_two _ p _ (shapes_of as') vs (all_fit as' vs h) (λ m n k. product_fits w p (index_of as') (shapes_of as') m n k)

pub negation_gives : (w : ℕ) (p : Place) (as' : List Sized) (vs : List Value) → MeetAll as' vs → Gives w p op.Neg a_negation as' vs
negation_gives w p as' vs h = at_one _ p _ (shapes_of as') vs (all_fit as' vs h) (λ m k. negation_fits w p (index_of as') (shapes_of as') m k)

pub quotient_gives : (w : ℕ) (p : Place) (as' : List Sized) (vs : List Value) → MeetAll as' vs → Gives w p op.Div a_quotient as' vs
quotient_gives w p as' vs h = at_two _ p _ (shapes_of as') vs (all_fit as' vs h) (λ m n k. quotient_fits w p (index_of as') (shapes_of as') m n k)

pub remainder_gives : (w : ℕ) (p : Place) (as' : List Sized) (vs : List Value) → MeetAll as' vs → Gives w p op.Mod a_remainder as' vs
remainder_gives w p as' vs h = at_two _ p _ (shapes_of as') vs (all_fit as' vs h) (λ m n k. remainder_fits w p (index_of as') (shapes_of as') m n k)

pub range_gives : (w : ℕ) (p : Place) (as' : List Sized) (vs : List Value) → MeetAll as' vs → Gives w p op.Range a_range as' vs
range_gives w p as' vs h = at_two _ p _ (shapes_of as') vs (all_fit as' vs h) (λ m n k. range_fits w (index_of as') (shapes_of as') m n k)

pub enumeration_gives : (w : ℕ) (p : Place) (as' : List Sized) (vs : List Value) → MeetAll as' vs → IsTrue (row_joins an_enumeration (index_of as') (shapes_of as')) → Gives w p op.SetEnum an_enumeration as' vs
enumeration_gives w p as' vs h e = enumeration_fits w (index_of as') (shapes_of as') vs (all_fit as' vs h) e

pub union_gives : (w : ℕ) (p : Place) (as' : List Sized) (vs : List Value) → MeetAll as' vs → IsTrue (row_joins a_union (index_of as') (shapes_of as')) → Gives w p op.Cup a_union as' vs
union_gives w p as' vs h e = at_sets _ p _ (shapes_of as') vs (all_fit as' vs h) (λ xs ys k. union_fits w (index_of as') (shapes_of as') xs ys k e)

pub inter_gives : (w : ℕ) (p : Place) (as' : List Sized) (vs : List Value) → MeetAll as' vs → Gives w p op.Cap a_part as' vs
inter_gives w p as' vs h = at_sets _ p _ (shapes_of as') vs (all_fit as' vs h) (λ xs ys k. part_fits w (index_of as') (shapes_of as') (λ x. member x ys) xs ys k)

pub minus_gives : (w : ℕ) (p : Place) (as' : List Sized) (vs : List Value) → MeetAll as' vs → Gives w p op.Minus a_part as' vs
minus_gives w p as' vs h = at_sets _ p _ (shapes_of as') vs (all_fit as' vs h) (λ xs ys k. part_fits w (index_of as') (shapes_of as') (λ x. not (member x ys)) xs ys k)

pub subsets_give : (w : ℕ) (p : Place) (as' : List Sized) (vs : List Value) → MeetAll as' vs → IfVal (Fits (row_shape w the_subsets no_literal (shapes_of as'))) (table (Some w) p op.Powerset vs)
subsets_give w p as' vs h = at_set _ p _ (shapes_of as') vs (all_fit as' vs h) (λ xs k. subsets_fits w no_literal (shapes_of as') xs k)

pub size_gives : (w : ℕ) (p : Place) (as' : List Sized) (vs : List Value) → MeetAll as' vs → Gives w p op.Cardinality a_size as' vs
size_gives w p as' vs h = at_set _ p _ (shapes_of as') vs (all_fit as' vs h) (λ xs k. cardinality_fits w p (index_of as') (shapes_of as') xs k)
