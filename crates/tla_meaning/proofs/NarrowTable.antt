-- The operators that join their operands, under a width and without one.
use Rattle.std.proofs.Common.{ℕ, zero, suc, ◌-◌, Bool, true, false, not, List, [], ◌∷◌, ◌++◌, length, map, take, drop, nat_le, Option, Some, None, ℤ, pos, negsuc, ◌+ℤ◌, ◌-ℤ◌, ◌*ℤ◌, neg_ℤ, int_le, int_lt, if◌then◌else◌}
use Rattle.tla_values.specs.Integers.{floor_quotient, floor_remainder}
use Rattle.tla_values.specs.Order.{Layer, same_value}
use Rattle.tla_values.specs.Sets.{apply, arguments, inter_of, minus, union_of}
use Rattle.tla_values.specs.declared.value.Value.{Value, out-Value}
use Rattle.tla_values.specs.declared.value.Value.TheVariants as value
use Rattle.tla_values.specs.declared.value.Value.TheOpen as layer
use Rattle.tla_meaning.specs.declared.op.Op.{Op}
use Rattle.tla_meaning.specs.declared.op.Op.TheVariants as op
use Rattle.tla_meaning.specs.declared.place.Place.{Place}
use Rattle.tla_meaning.specs.declared.outcome.Outcome.{Outcome}
use Rattle.tla_meaning.specs.declared.outcome.Outcome.TheVariants.{Val, Wrong, Big}
use Rattle.tla_meaning.specs.Numbers.{Width, in_width, number, quotient, remainder, power, power_of, range}
use Rattle.tla_meaning.specs.Operators.{table, or_wrong, on_truth, on_truths, on_number, on_numbers, on_set, on_sets, on_function, on_functions, on_items, on_sequence, on_two, on_all_sets, applied, domain, head_of, tail_of, part_of, part_from_to, appended}
use Rattle.tla_meaning.specs.Shapes.{truth, the_set, the_function, sequence, record_of, items_of, all_set_items, union_all, subsets, functions, records, tuples}
use Rattle.tla_meaning.specs.Widths.{Narrow, SameValue, BothWrong, TooBig}

if_narrow : {w : ℕ} → (p : Place) (v : Value) (b : Bool) → Narrow (Some w) (if b then Val v else Big p) (Val v)
if_narrow p v true = SameValue v
if_narrow p v false = TooBig p (Val v)

pub number_narrow : (w : Width) (p : Place) (n : ℤ) → Narrow w (number w p n) (number None p n)
number_narrow None p n = SameValue (value.Int n)
number_narrow (Some w) p n = if_narrow p (value.Int n) (in_width (Some w) n)

quotient_narrow : (w : Width) (p : Place) (a b : ℤ) → Narrow w (quotient w p a b) (quotient None p a b)
quotient_narrow w p a (pos zero) = BothWrong p p
quotient_narrow w p a (pos (suc b)) = number_narrow w p (floor_quotient a (suc b))
quotient_narrow w p a (negsuc b) = BothWrong p p

remainder_narrow : (w : Width) (p : Place) (a b : ℤ) → Narrow w (remainder w p a b) (remainder None p a b)
remainder_narrow w p a (pos zero) = BothWrong p p
remainder_narrow w p a (pos (suc b)) = number_narrow w p (floor_remainder a (suc b))
remainder_narrow w p a (negsuc b) = BothWrong p p

power_narrow : (w : Width) (p : Place) (a b : ℤ) → Narrow w (power w p a b) (power None p a b)
power_narrow w p a (pos n) = number_narrow w p (power_of a n)
power_narrow w p a (negsuc n) = BothWrong p p

domain_narrow : (w : Width) (p : Place) (ps : List (Value × Value)) (o : Option (List Value)) → Narrow w (domain w p ps o) (domain None p ps o)
domain_narrow w p ps None = SameValue (value.Set (arguments ps))
domain_narrow None p ps (Some xs) = SameValue (value.Set (arguments ps))
domain_narrow (Some w) p ps (Some xs) = if_narrow p (value.Set (arguments ps)) (in_width (Some w) (pos (length xs)))

-- ---- operands by their kinds

on_truth_narrow : {w : Width} → (p : Place) (f g : Bool → Outcome) → ((a : Bool) → Narrow w (f a) (g a)) → (ls : List (Layer Value)) →
    Narrow w (on_truth p f ls) (on_truth p g ls)
on_truth_narrow p f g r (layer.Bool a ∷ []) = r a
on_truth_narrow p f g r ls = BothWrong p p

on_truths_narrow : {w : Width} → (p : Place) (f g : Bool → Bool → Outcome) → ((a b : Bool) → Narrow w (f a b) (g a b)) → (ls : List (Layer Value)) →
    Narrow w (on_truths p f ls) (on_truths p g ls)
on_truths_narrow p f g r (layer.Bool a ∷ layer.Bool b ∷ []) = r a b
on_truths_narrow p f g r ls = BothWrong p p

on_number_narrow : {w : Width} → (p : Place) (f g : ℤ → Outcome) → ((a : ℤ) → Narrow w (f a) (g a)) → (ls : List (Layer Value)) →
    Narrow w (on_number p f ls) (on_number p g ls)
on_number_narrow p f g r (layer.Int a ∷ []) = r a
on_number_narrow p f g r ls = BothWrong p p

on_numbers_narrow : {w : Width} → (p : Place) (f g : ℤ → ℤ → Outcome) → ((a b : ℤ) → Narrow w (f a b) (g a b)) → (ls : List (Layer Value)) →
    Narrow w (on_numbers p f ls) (on_numbers p g ls)
on_numbers_narrow p f g r (layer.Int a ∷ layer.Int b ∷ []) = r a b
on_numbers_narrow p f g r ls = BothWrong p p

on_set_narrow : {w : Width} → (p : Place) (f g : List Value → Outcome) → ((xs : List Value) → Narrow w (f xs) (g xs)) → (ls : List (Layer Value)) →
    Narrow w (on_set p f ls) (on_set p g ls)
on_set_narrow p f g r (layer.Set xs ∷ []) = r xs
on_set_narrow p f g r ls = BothWrong p p

on_sets_narrow : {w : Width} → (p : Place) (f : List Value → List Value → Value) (ls : List (Layer Value)) →
    Narrow w (on_sets p (λ xs ys. Val (f xs ys)) ls) (on_sets p (λ xs ys. Val (f xs ys)) ls)
on_sets_narrow p f (layer.Set xs ∷ layer.Set ys ∷ []) = SameValue (f xs ys)
on_sets_narrow p f ls = BothWrong p p

on_function_narrow : {w : Width} → (p : Place) (f g : List (Value × Value) → Outcome) → ((ps : List (Value × Value)) → Narrow w (f ps) (g ps)) →
    (ls : List (Layer Value)) → Narrow w (on_function p f ls) (on_function p g ls)
on_function_narrow p f g r (layer.Fun ps ∷ []) = r ps
on_function_narrow p f g r ls = BothWrong p p

on_functions_narrow : {w : Width} → (p : Place) (f g : List (Value × Value) → List (Value × Value) → Outcome) →
    ((ps qs : List (Value × Value)) → Narrow w (f ps qs) (g ps qs)) → (ls : List (Layer Value)) → Narrow w (on_functions p f ls) (on_functions p g ls)
on_functions_narrow p f g r (layer.Fun ps ∷ layer.Fun qs ∷ []) = r ps qs
on_functions_narrow p f g r ls = BothWrong p p

pub on_items_narrow : {w : Width} → (p : Place) (f g : List Value → Outcome) → ((xs : List Value) → Narrow w (f xs) (g xs)) → (o : Option (List Value)) →
    Narrow w (on_items p f o) (on_items p g o)
on_items_narrow p f g r None = BothWrong p p
on_items_narrow p f g r (Some xs) = r xs

on_sequence_narrow : {w : Width} → (p : Place) (f g : List Value → Outcome) → ((xs : List Value) → Narrow w (f xs) (g xs)) →
    (ls : List (Layer Value)) → Narrow w (on_sequence p f ls) (on_sequence p g ls)
on_sequence_narrow p f g r ls =
    on_function_narrow p (λ ps. on_items p f (items_of ps)) (λ ps. on_items p g (items_of ps)) (λ ps. on_items_narrow p f g r (items_of ps)) ls

on_two_narrow : {w : Width} → (p : Place) (f : Value → Value → Outcome) → ((a b : Value) → Narrow w (f a b) (f a b)) → (vs : List Value) →
    Narrow w (on_two p f vs) (on_two p f vs)
on_two_narrow p f r (a ∷ b ∷ []) = r a b
on_two_narrow p f r vs = BothWrong p p

-- ---- rows that compute no number

pub on_all_sets_narrow : {w : Width} → (p : Place) (f g : List (List Value) → Outcome) → ((xss : List (List Value)) → Narrow w (f xss) (g xss)) →
    (vs : List Value) → Narrow w (on_all_sets p f vs) (on_all_sets p g vs)
on_all_sets_narrow {w = w} p f g r vs = by_items (all_set_items vs)
  where
    by_items : (o : Option (List (List Value))) → Narrow w (elim o [ None ↦ Wrong p | Some xss ↦ f xss ]) (elim o [ None ↦ Wrong p | Some xss ↦ g xss ])
    by_items None = BothWrong p p
    by_items (Some xss) = r xss

pub found_same : {w : Width} → (p : Place) (o : Option Value) → Narrow w (or_wrong p o) (or_wrong p o)
found_same p None = BothWrong p p
found_same p (Some v) = SameValue v

applied_same : {w : Width} → (p : Place) (l : Layer Value) (a : Value) → Narrow w (applied p l a) (applied p l a)
applied_same p (layer.Fun ps) a = found_same p (apply ps a)
applied_same p l a = BothWrong p p

head_same : {w : Width} → (p : Place) (xs : List Value) → Narrow w (head_of p xs) (head_of p xs)
head_same p [] = BothWrong p p
head_same p (x ∷ xs) = SameValue x

tail_same : {w : Width} → (p : Place) (xs : List Value) → Narrow w (tail_of p xs) (tail_of p xs)
tail_same p [] = BothWrong p p
tail_same p (x ∷ xs) = SameValue (sequence xs)

inside_same : {w : Width} → (p : Place) (v : Value) (b : Bool) → Narrow w (if b then Val v else Wrong p) (if b then Val v else Wrong p)
inside_same p v true = SameValue v
inside_same p v false = BothWrong p p

part_same : {w : Width} → (p : Place) (xs : List Value) (m n : ℤ) → Narrow w (part_of p xs m n) (part_of p xs m n)
part_same {w = w} p xs (pos (suc m)) (pos n) = by_order (nat_le (suc m) n)
  where
    some : Outcome
    some = if nat_le n (length xs) then Val (sequence (take (n - m) (drop m xs))) else Wrong p

    by_order : (b : Bool) → Narrow w (if b then some else Val (sequence [])) (if b then some else Val (sequence []))
    by_order true = inside_same p (sequence (take (n - m) (drop m xs))) (nat_le n (length xs))
    by_order false = SameValue (sequence [])
part_same {w = w} p xs m n = by_order (int_le m n)
  where
    by_order : (b : Bool) → Narrow w (if b then Wrong p else Val (sequence [])) (if b then Wrong p else Val (sequence []))
    by_order true = BothWrong p p
    by_order false = SameValue (sequence [])

slice_same : {w : Width} → (p : Place) (ls : List (Layer Value)) → Narrow w (part_from_to p ls) (part_from_to p ls)
slice_same p (layer.Fun ps ∷ layer.Int m ∷ layer.Int n ∷ []) =
    on_items_narrow p (λ xs. part_of p xs m n) (λ xs. part_of p xs m n) (λ xs. part_same p xs m n) (items_of ps)
slice_same p ls = BothWrong p p

appended_same : {w : Width} → (p : Place) (ls : List (Layer Value)) (vs : List Value) → Narrow w (appended p ls vs) (appended p ls vs)
appended_same p (layer.Fun ps ∷ x ∷ []) (v ∷ y ∷ []) =
    on_items_narrow p (λ xs. Val (sequence (xs ++ y ∷ []))) (λ xs. Val (sequence (xs ++ y ∷ []))) (λ xs. SameValue (sequence (xs ++ y ∷ []))) (items_of ps)
appended_same p ls vs = BothWrong p p

-- what a joining operator gives of the same operands
pub table_narrow : (w : Width) (p : Place) (o : Op) (vs : List Value) → Narrow w (table w p o vs) (table None p o vs)
table_narrow w p op.Not vs = on_truth_narrow p _ _ (λ a. SameValue (truth (not a))) (map out-Value vs)
table_narrow w p op.Iff vs = on_truths_narrow p _ _ (λ a b. SameValue (truth (same_value (truth a) (truth b)))) (map out-Value vs)
table_narrow w p op.Eq vs = on_two_narrow p _ (λ a b. SameValue (truth (same_value a b))) vs
table_narrow w p op.Ne vs = on_two_narrow p _ (λ a b. SameValue (truth (not (same_value a b)))) vs
table_narrow w p op.Assign vs = on_two_narrow p _ (λ a b. SameValue (truth (same_value a b))) vs
table_narrow w p op.Lt vs = on_numbers_narrow p _ _ (λ a b. SameValue (truth (int_lt a b))) (map out-Value vs)
table_narrow w p op.Gt vs = on_numbers_narrow p _ _ (λ a b. SameValue (truth (int_lt b a))) (map out-Value vs)
table_narrow w p op.Le vs = on_numbers_narrow p _ _ (λ a b. SameValue (truth (int_le a b))) (map out-Value vs)
table_narrow w p op.Ge vs = on_numbers_narrow p _ _ (λ a b. SameValue (truth (int_le b a))) (map out-Value vs)
table_narrow w p op.Add vs = on_numbers_narrow p _ _ (λ a b. number_narrow w p (a +ℤ b)) (map out-Value vs)
table_narrow w p op.Sub vs = on_numbers_narrow p _ _ (λ a b. number_narrow w p (a -ℤ b)) (map out-Value vs)
table_narrow w p op.Mul vs = on_numbers_narrow p _ _ (λ a b. number_narrow w p (a *ℤ b)) (map out-Value vs)
table_narrow w p op.Neg vs = on_number_narrow p _ _ (λ a. number_narrow w p (neg_ℤ a)) (map out-Value vs)
table_narrow w p op.Div vs = on_numbers_narrow p (quotient w p) (quotient None p) (quotient_narrow w p) (map out-Value vs)
table_narrow w p op.Mod vs = on_numbers_narrow p (remainder w p) (remainder None p) (remainder_narrow w p) (map out-Value vs)
table_narrow w p op.Pow vs = on_numbers_narrow p (power w p) (power None p) (power_narrow w p) (map out-Value vs)
table_narrow w p op.Range vs = on_numbers_narrow p _ _ (λ a b. SameValue (value.Set (range a b))) (map out-Value vs)
table_narrow w p op.SetEnum vs = SameValue (the_set vs)
table_narrow w p op.Cup vs = on_sets_narrow p (λ xs ys. value.Set (union_of xs ys)) (map out-Value vs)
table_narrow w p op.Cap vs = on_sets_narrow p (λ xs ys. value.Set (inter_of xs ys)) (map out-Value vs)
table_narrow w p op.Minus vs = on_sets_narrow p (λ xs ys. value.Set (minus xs ys)) (map out-Value vs)
table_narrow w p op.Powerset vs = on_set_narrow p _ _ (λ xs. SameValue (subsets xs)) (map out-Value vs)
table_narrow w p op.FunSet vs = on_sets_narrow p functions (map out-Value vs)
table_narrow w p (op.RecSet names) vs = on_all_sets_narrow p _ _ (λ xss. SameValue (records names xss)) vs
table_narrow w p op.Product vs = on_all_sets_narrow p _ _ (λ xss. SameValue (tuples xss)) vs
table_narrow w p op.BigUnion vs =
    on_set_narrow p _ _ (λ xs. on_all_sets_narrow p (λ xss. Val (value.Set (union_all xss))) (λ xss. Val (value.Set (union_all xss)))
    (λ xss. SameValue (value.Set (union_all xss))) xs) (map out-Value vs)
table_narrow w p op.BooleanSet vs = SameValue (value.Set (truth false ∷ truth true ∷ []))
table_narrow w p op.Cardinality vs = on_set_narrow p _ _ (λ xs. number_narrow w p (pos (length xs))) (map out-Value vs)
table_narrow w p op.IsFinite vs = on_set_narrow p _ _ (λ xs. SameValue (truth true)) (map out-Value vs)
table_narrow w p op.Apply vs = on_two_narrow p (λ f a. applied p (out-Value f) a) (λ f a. applied_same p (out-Value f) a) vs
table_narrow w p op.Domain vs =
    on_function_narrow p (λ ps. domain w p ps (items_of ps)) (λ ps. domain None p ps (items_of ps))
    (λ ps. domain_narrow w p ps (items_of ps)) (map out-Value vs)
table_narrow w p op.Merge vs = on_functions_narrow p _ _ (λ ps qs. SameValue (the_function (ps ++ qs))) (map out-Value vs)
table_narrow w p op.Single vs = on_two_narrow p _ (λ a v. SameValue (value.Fun ((a, v) ∷ []))) vs
table_narrow w p (op.Record names) vs = SameValue (record_of names vs)
table_narrow w p (op.Field name) vs =
    on_function_narrow p (λ ps. or_wrong p (apply ps (value.Text name))) (λ ps. or_wrong p (apply ps (value.Text name)))
    (λ ps. found_same p (apply ps (value.Text name))) (map out-Value vs)
table_narrow w p op.Tuple vs = SameValue (sequence vs)
table_narrow w p op.Len vs =
    on_sequence_narrow p (λ xs. number w p (pos (length xs))) (λ xs. number None p (pos (length xs))) (λ xs. number_narrow w p (pos (length xs))) (map out-Value vs)
table_narrow w p op.Append vs = appended_same p (map out-Value vs) vs
table_narrow w p op.Concat vs =
    on_functions_narrow p _ _ (λ ps qs. on_items_narrow p _ _ (λ xs. on_items_narrow p (λ ys. Val (sequence (xs ++ ys))) (λ ys. Val (sequence (xs ++ ys)))
    (λ ys. SameValue (sequence (xs ++ ys))) (items_of qs)) (items_of ps)) (map out-Value vs)
table_narrow w p op.Head vs = on_sequence_narrow p (head_of p) (head_of p) (head_same p) (map out-Value vs)
table_narrow w p op.Tail vs = on_sequence_narrow p (tail_of p) (tail_of p) (tail_same p) (map out-Value vs)
table_narrow w p op.SubSeq vs = slice_same p (map out-Value vs)
table_narrow w p o vs = BothWrong p p
