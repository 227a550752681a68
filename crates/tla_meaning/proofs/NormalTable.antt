-- The operators give normal values of normal values.
use Rattle.std.proofs.Common.{ℕ, zero, suc, ◌-◌, ◌+◌, Bool, true, false, not, List, [], ◌∷◌, ◌++◌, length, take, drop, map, filter, Option, Some, None, ℤ, pos, negsuc, ◌+ℤ◌, ◌-ℤ◌, ◌*ℤ◌, neg_ℤ, refl, if◌then◌else◌}
use Rattle.std.specs.Prelude.{int_lt, int_le, nat_le, nat_abs}
use Rattle.std.specs.List.{AllByRecursion}
use Rattle.tla_values.specs.Integers.{floor_quotient, floor_remainder}
use Rattle.tla_values.specs.Order.{Layer, same_value}
use Rattle.tla_values.specs.Sets.{Normal, arguments, apply, union_of, inter_of, minus, member}
use Rattle.tla_values.specs.declared.value.Value.{Value, out-Value}
use Rattle.tla_values.specs.declared.value.Value.TheVariants as value
use Rattle.tla_values.specs.declared.value.Value.TheOpen as layer
use Rattle.tla_values.proofs.NormalLemmas.{fun_pairs, normal_domain, fun_normal}
use Rattle.tla_values.proofs.SetLaws.{rising_filter, all_filter}
use Rattle.tla_meaning.specs.declared.op.Op.{Op}
use Rattle.tla_meaning.specs.declared.op.Op.TheVariants as op
use Rattle.tla_meaning.specs.declared.place.Place.{Place}
use Rattle.tla_meaning.specs.declared.outcome.Outcome.{Outcome}
use Rattle.tla_meaning.specs.declared.outcome.Outcome.TheVariants.{Val, Wrong, Big}
use Rattle.tla_meaning.specs.Outcomes.{IsNormalOutcome}
use Rattle.tla_meaning.specs.Numbers.{Width, in_width, number, quotient, remainder, power, power_of, range}
use Rattle.tla_meaning.specs.Operators.{table, yes_no, or_wrong, on_truth, on_truths, on_two, on_number, on_numbers, on_set, on_sets, on_function, on_functions, on_sequence, on_sequences, on_items, on_all_sets, applied, domain, head_of, tail_of, part_of, part_from_to, appended}
use Rattle.tla_meaning.specs.Shapes.{truth, sequence, items_of, all_set_items, union_all}
use Rattle.tla_meaning.proofs.NormalShapes.{Normals, NormalSet, NormalLayer, IfSomes, set_made, layer_normal, truth_normal, int_normal, the_set_normal, the_function_normal, all_plus, subsets_normal, from_normal, sequence_normal, record_normal, functions_normal, records_normal, tuples_normal, falsity_first, items_normal, apply_normal, all_items_normal, union_normal, union_all_normal, lists_of}

abbrev pub NormalLayers : List (Layer Value) → Type 0
NormalLayers ls = AllByRecursion NormalLayer ls

pub layers_normal : (vs : List Value) → Normals vs → NormalLayers (map out-Value vs)
layers_normal [] h = tt
layers_normal (v ∷ vs) h = (layer_normal v h.0, layers_normal vs h.1)

pub yes_normal : (b : Bool) → IsNormalOutcome (yes_no b)
yes_normal b = truth_normal b

if_normal : (p : Place) (v : Value) (b : Bool) → Normal v → IsNormalOutcome (if b then Val v else Big p)
if_normal p v true h = h
if_normal p v false h = tt

pub number_normal : (w : Width) (p : Place) (n : ℤ) → IsNormalOutcome (number w p n)
number_normal w p n = if_normal p (value.Int n) (in_width w n) (int_normal n)

quotient_normal : (w : Width) (p : Place) (a b : ℤ) → IsNormalOutcome (quotient w p a b)
quotient_normal w p a (pos zero) = tt
quotient_normal w p a (pos (suc b)) = number_normal w p (floor_quotient a (suc b))
quotient_normal w p a (negsuc b) = tt

remainder_normal : (w : Width) (p : Place) (a b : ℤ) → IsNormalOutcome (remainder w p a b)
remainder_normal w p a (pos zero) = tt
remainder_normal w p a (pos (suc b)) = number_normal w p (floor_remainder a (suc b))
remainder_normal w p a (negsuc b) = tt

power_normal : (w : Width) (p : Place) (a b : ℤ) → IsNormalOutcome (power w p a b)
power_normal w p a (pos n) = number_normal w p (power_of a n)
power_normal w p a (negsuc n) = tt

domain_normal : (w : Width) (p : Place) (ps : List (Value × Value)) (o : Option (List Value)) → Normal (value.Fun ps) → IsNormalOutcome (domain w p ps o)
domain_normal w p ps None h = normal_domain ps h
domain_normal w p ps (Some xs) h = if_normal p (value.Set (arguments ps)) (in_width w (pos (length xs))) (normal_domain ps h)

-- ---- operands by their kinds

on_truth_normal : (p : Place) (f : Bool → Outcome) → ((a : Bool) → IsNormalOutcome (f a)) → (ls : List (Layer Value)) → IsNormalOutcome (on_truth p f ls)
on_truth_normal p f r (layer.Bool a ∷ []) = r a
on_truth_normal p f r ls = tt

on_truths_normal : (p : Place) (f : Bool → Bool → Outcome) → ((a b : Bool) → IsNormalOutcome (f a b)) → (ls : List (Layer Value)) → IsNormalOutcome (on_truths p f ls)
on_truths_normal p f r (layer.Bool a ∷ layer.Bool b ∷ []) = r a b
on_truths_normal p f r ls = tt

on_number_normal : (p : Place) (f : ℤ → Outcome) → ((a : ℤ) → IsNormalOutcome (f a)) → (ls : List (Layer Value)) → IsNormalOutcome (on_number p f ls)
on_number_normal p f r (layer.Int a ∷ []) = r a
on_number_normal p f r ls = tt

on_numbers_normal : (p : Place) (f : ℤ → ℤ → Outcome) → ((a b : ℤ) → IsNormalOutcome (f a b)) → (ls : List (Layer Value)) → IsNormalOutcome (on_numbers p f ls)
on_numbers_normal p f r (layer.Int a ∷ layer.Int b ∷ []) = r a b
on_numbers_normal p f r ls = tt

on_set_normal : (p : Place) (f : List Value → Outcome) → ((xs : List Value) → NormalSet xs → IsNormalOutcome (f xs)) → (ls : List (Layer Value)) →
    NormalLayers ls → IsNormalOutcome (on_set p f ls)
on_set_normal p f r (layer.Set xs ∷ []) h = r xs h.0
on_set_normal p f r ls h = tt

on_sets_normal : (p : Place) (f : List Value → List Value → Outcome) → ((xs ys : List Value) → NormalSet xs → NormalSet ys → IsNormalOutcome (f xs ys)) →
    (ls : List (Layer Value)) → NormalLayers ls → IsNormalOutcome (on_sets p f ls)
on_sets_normal p f r (layer.Set xs ∷ layer.Set ys ∷ []) h = r xs ys h.0 h.1.0
on_sets_normal p f r ls h = tt

on_function_normal : (p : Place) (f : List (Value × Value) → Outcome) → ((ps : List (Value × Value)) → Normal (value.Fun ps) → IsNormalOutcome (f ps)) →
    (ls : List (Layer Value)) → NormalLayers ls → IsNormalOutcome (on_function p f ls)
on_function_normal p f r (layer.Fun ps ∷ []) h = r ps h.0
on_function_normal p f r ls h = tt

on_functions_normal : (p : Place) (f : List (Value × Value) → List (Value × Value) → Outcome) →
    ((ps qs : List (Value × Value)) → Normal (value.Fun ps) → Normal (value.Fun qs) → IsNormalOutcome (f ps qs)) →
    (ls : List (Layer Value)) → NormalLayers ls → IsNormalOutcome (on_functions p f ls)
on_functions_normal p f r (layer.Fun ps ∷ layer.Fun qs ∷ []) h = r ps qs h.0 h.1.0
on_functions_normal p f r ls h = tt

pub on_items_normal : (p : Place) (f : List Value → Outcome) → ((xs : List Value) → Normals xs → IsNormalOutcome (f xs)) → (o : Option (List Value)) →
    IfSomes Normals o → IsNormalOutcome (on_items p f o)
on_items_normal p f r None h = tt
on_items_normal p f r (Some xs) h = r xs h

pub items_of_normal : (ps : List (Value × Value)) → Normal (value.Fun ps) → IfSomes Normals (items_of ps)
items_of_normal ps h = items_normal 1 ps (fun_pairs ps h)

on_sequence_normal : (p : Place) (f : List Value → Outcome) → ((xs : List Value) → Normals xs → IsNormalOutcome (f xs)) → (ls : List (Layer Value)) →
    NormalLayers ls → IsNormalOutcome (on_sequence p f ls)
on_sequence_normal p f r ls h =
    on_function_normal p (λ ps. on_items p f (items_of ps)) (λ ps k. on_items_normal p f r (items_of ps) (items_of_normal ps k)) ls h

on_sequences_normal : (p : Place) (f : List Value → List Value → Outcome) → ((xs ys : List Value) → Normals xs → Normals ys → IsNormalOutcome (f xs ys)) →
    (ls : List (Layer Value)) → NormalLayers ls → IsNormalOutcome (on_sequences p f ls)
on_sequences_normal p f r ls h =
    on_functions_normal p (λ ps qs. on_items p (λ xs. on_items p (λ ys. f xs ys) (items_of qs)) (items_of ps)) (λ ps qs k l.
    on_items_normal p (λ xs. on_items p (λ ys. f xs ys) (items_of qs)) (λ xs x.
    on_items_normal p (λ ys. f xs ys) (λ ys y. r xs ys x y) (items_of qs) (items_of_normal qs l)) (items_of ps) (items_of_normal ps k)) ls h

on_two_normal : (p : Place) (f : Value → Value → Outcome) → ((a b : Value) → Normal a → Normal b → IsNormalOutcome (f a b)) → (vs : List Value) →
    Normals vs → IsNormalOutcome (on_two p f vs)
on_two_normal p f r (v ∷ u ∷ []) h = r v u h.0 h.1.0
on_two_normal p f r vs h = tt

pub on_all_sets_normal : (p : Place) (f : List (List Value) → Outcome) → ((xss : List (List Value)) → AllByRecursion NormalSet xss → IsNormalOutcome (f xss)) →
    (vs : List Value) → Normals vs → IsNormalOutcome (on_all_sets p f vs)
on_all_sets_normal p f r vs h = by_items (all_set_items vs) (all_items_normal vs h)
  where
    by_items : (o : Option (List (List Value))) → IfSomes (λ xss. AllByRecursion NormalSet xss) o → IsNormalOutcome (elim o [ None ↦ Wrong p | Some xss ↦ f xss ])
    by_items None k = tt
    by_items (Some xss) k = r xss k

or_wrong_normal : (p : Place) (o : Option Value) → IfSomes Normal o → IsNormalOutcome (or_wrong p o)
or_wrong_normal p None h = tt
or_wrong_normal p (Some v) h = h

applied_normal : (p : Place) (l : Layer Value) (a : Value) → NormalLayer l → IsNormalOutcome (applied p l a)
applied_normal p (layer.Fun ps) a h = or_wrong_normal p (apply ps a) (apply_normal ps a (fun_pairs ps h))
applied_normal p l a h = tt

-- ---- sequences

head_normal : (p : Place) (xs : List Value) → Normals xs → IsNormalOutcome (head_of p xs)
head_normal p [] h = tt
head_normal p (x ∷ xs) h = h.0

tail_normal : (p : Place) (xs : List Value) → Normals xs → IsNormalOutcome (tail_of p xs)
tail_normal p [] h = tt
tail_normal p (x ∷ xs) h = sequence_normal xs h.1

pub taken : {X : Type 0} (P : X → Type 0) (n : ℕ) (xs : List X) → AllByRecursion P xs → AllByRecursion P (take n xs)
taken P zero xs h = tt
taken P (suc n) [] h = tt
taken P (suc n) (x ∷ xs) h = (h.0, taken P n xs h.1)

pub dropped : {X : Type 0} (P : X → Type 0) (n : ℕ) (xs : List X) → AllByRecursion P xs → AllByRecursion P (drop n xs)
dropped P zero xs h = h
dropped P (suc n) [] h = tt
dropped P (suc n) (x ∷ xs) h = dropped P n xs h.1

either_normal : (b : Bool) (o q : Outcome) → IsNormalOutcome o → IsNormalOutcome q → IsNormalOutcome (if b then o else q)
either_normal true o q h k = h
either_normal false o q h k = k

empty_normal : IsNormalOutcome (Val (sequence []))
empty_normal = sequence_normal [] tt

part_normal : (p : Place) (xs : List Value) (m n : ℤ) → Normals xs → IsNormalOutcome (part_of p xs m n)
part_normal p xs (pos (suc m)) (pos n) h =
    either_normal (nat_le (suc m) n) _ _
    (either_normal (nat_le n (length xs)) (Val (sequence (take (n - m) (drop m xs)))) (Wrong p)
    (sequence_normal (take (n - m) (drop m xs)) (taken Normal (n - m) (drop m xs) (dropped Normal m xs h))) tt) empty_normal
part_normal p xs m n h = either_normal (int_le m n) (Wrong p) (Val (sequence [])) tt empty_normal

part_from_to_normal : (p : Place) (ls : List (Layer Value)) → NormalLayers ls → IsNormalOutcome (part_from_to p ls)
part_from_to_normal p (layer.Fun ps ∷ layer.Int m ∷ layer.Int n ∷ []) h =
    on_items_normal p (λ xs. part_of p xs m n) (λ xs k. part_normal p xs m n k) (items_of ps) (items_of_normal ps h.0)
part_from_to_normal p ls h = tt

appended_normal : (p : Place) (ls : List (Layer Value)) (vs : List Value) → NormalLayers ls → Normals vs → IsNormalOutcome (appended p ls vs)
appended_normal p (layer.Fun ps ∷ x ∷ []) (v ∷ y ∷ []) h k =
    on_items_normal p (λ xs. Val (sequence (xs ++ y ∷ []))) (λ xs r. sequence_normal (xs ++ y ∷ []) (all_plus Normal xs (y ∷ []) r (k.1.0, tt)))
    (items_of ps) (items_of_normal ps h.0)
appended_normal p ls vs h k = tt

filtered : (f : Value → Bool) (xs : List Value) → NormalSet xs → NormalSet (filter f xs)
filtered f xs h = (rising_filter f xs h.0, all_filter Normal f xs h.1)

the_truths : Normal (value.Set (truth false ∷ truth true ∷ []))
the_truths = set_made (truth false ∷ truth true ∷ []) (((falsity_first, tt), (tt, tt)), (truth_normal false, (truth_normal true, tt)))

-- what a joining operator gives of normal values
pub table_normal : (w : Width) (p : Place) (o : Op) (vs : List Value) → Normals vs → IsNormalOutcome (table w p o vs)
table_normal w p op.Not vs h = on_truth_normal p _ (λ a. yes_normal (not a)) (map out-Value vs)
table_normal w p op.Iff vs h = on_truths_normal p _ (λ a b. yes_normal (same_value (truth a) (truth b))) (map out-Value vs)
table_normal w p op.Eq vs h = on_two_normal p _ (λ a b k l. yes_normal (same_value a b)) vs h
table_normal w p op.Ne vs h = on_two_normal p _ (λ a b k l. yes_normal (not (same_value a b))) vs h
table_normal w p op.Assign vs h = on_two_normal p _ (λ a b k l. yes_normal (same_value a b)) vs h
table_normal w p op.Lt vs h = on_numbers_normal p _ (λ a b. yes_normal (int_lt a b)) (map out-Value vs)
table_normal w p op.Gt vs h = on_numbers_normal p _ (λ a b. yes_normal (int_lt b a)) (map out-Value vs)
table_normal w p op.Le vs h = on_numbers_normal p _ (λ a b. yes_normal (int_le a b)) (map out-Value vs)
table_normal w p op.Ge vs h = on_numbers_normal p _ (λ a b. yes_normal (int_le b a)) (map out-Value vs)
table_normal w p op.Add vs h = on_numbers_normal p _ (λ a b. number_normal w p (a +ℤ b)) (map out-Value vs)
table_normal w p op.Sub vs h = on_numbers_normal p _ (λ a b. number_normal w p (a -ℤ b)) (map out-Value vs)
table_normal w p op.Mul vs h = on_numbers_normal p _ (λ a b. number_normal w p (a *ℤ b)) (map out-Value vs)
table_normal w p op.Neg vs h = on_number_normal p _ (λ a. number_normal w p (neg_ℤ a)) (map out-Value vs)
table_normal w p op.Div vs h = on_numbers_normal p (quotient w p) (quotient_normal w p) (map out-Value vs)
table_normal w p op.Mod vs h = on_numbers_normal p (remainder w p) (remainder_normal w p) (map out-Value vs)
table_normal w p op.Pow vs h = on_numbers_normal p (power w p) (power_normal w p) (map out-Value vs)
table_normal w p op.Range vs h =
    on_numbers_normal p (λ a b. Val (value.Set (range a b))) (λ a b. from_normal (if int_le a b then nat_abs (b -ℤ a) + 1 else 0) a) (map out-Value vs)
table_normal w p op.SetEnum vs h = the_set_normal vs h
table_normal w p op.Cup vs h =
    on_sets_normal p _ (λ xs ys k l. set_made (union_of xs ys) (union_normal xs ys k.1 l)) (map out-Value vs) (layers_normal vs h)
table_normal w p op.Cap vs h =
    on_sets_normal p _ (λ xs ys k l. set_made (inter_of xs ys) (filtered (λ x. member x ys) xs k)) (map out-Value vs) (layers_normal vs h)
table_normal w p op.Minus vs h =
    on_sets_normal p _ (λ xs ys k l. set_made (minus xs ys) (filtered (λ x. not (member x ys)) xs k)) (map out-Value vs) (layers_normal vs h)
table_normal w p op.Powerset vs h = on_set_normal p _ (λ xs k. subsets_normal xs k) (map out-Value vs) (layers_normal vs h)
table_normal w p op.FunSet vs h = on_sets_normal p _ (λ xs ts k l. functions_normal xs ts k l) (map out-Value vs) (layers_normal vs h)
table_normal w p (op.RecSet names) vs h = on_all_sets_normal p _ (λ xss k. records_normal names xss (lists_of xss k)) vs h
table_normal w p op.Product vs h = on_all_sets_normal p _ (λ xss k. tuples_normal xss (lists_of xss k)) vs h
table_normal w p op.BigUnion vs h =
    on_set_normal p (on_all_sets p (λ xss. Val (value.Set (union_all xss))))
    (λ xs k. on_all_sets_normal p (λ xss. Val (value.Set (union_all xss))) (λ xss l. set_made (union_all xss) (union_all_normal xss l)) xs k.1)
    (map out-Value vs) (layers_normal vs h)
table_normal w p op.BooleanSet vs h = the_truths
table_normal w p op.Cardinality vs h = on_set_normal p _ (λ xs k. number_normal w p (pos (length xs))) (map out-Value vs) (layers_normal vs h)
table_normal w p op.IsFinite vs h = on_set_normal p _ (λ xs k. yes_normal true) (map out-Value vs) (layers_normal vs h)
table_normal w p op.Apply vs h = on_two_normal p _ (λ f a k l. applied_normal p (out-Value f) a (layer_normal f k)) vs h
table_normal w p op.Domain vs h = on_function_normal p _ (λ ps k. domain_normal w p ps (items_of ps) k) (map out-Value vs) (layers_normal vs h)
table_normal w p op.Merge vs h =
    on_functions_normal p _ (λ ps qs k l. the_function_normal (ps ++ qs) (all_plus _ ps qs (fun_pairs ps k) (fun_pairs qs l))) (map out-Value vs) (layers_normal vs h)
table_normal w p op.Single vs h = on_two_normal p _ (λ a v k l. fun_normal ((a, v) ∷ []) refl ((k, l), tt)) vs h
table_normal w p (op.Record names) vs h = record_normal names vs h
table_normal w p (op.Field name) vs h =
    on_function_normal p _ (λ ps k. or_wrong_normal p (apply ps (value.Text name)) (apply_normal ps (value.Text name) (fun_pairs ps k))) (map out-Value vs) (layers_normal vs h)
table_normal w p op.Tuple vs h = sequence_normal vs h
table_normal w p op.Len vs h = on_sequence_normal p _ (λ xs k. number_normal w p (pos (length xs))) (map out-Value vs) (layers_normal vs h)
table_normal w p op.Append vs h = appended_normal p (map out-Value vs) vs (layers_normal vs h) h
table_normal w p op.Concat vs h =
    on_sequences_normal p _ (λ xs ys k l. sequence_normal (xs ++ ys) (all_plus Normal xs ys k l)) (map out-Value vs) (layers_normal vs h)
table_normal w p op.Head vs h = on_sequence_normal p (head_of p) (head_normal p) (map out-Value vs) (layers_normal vs h)
table_normal w p op.Tail vs h = on_sequence_normal p (tail_of p) (tail_normal p) (map out-Value vs) (layers_normal vs h)
table_normal w p op.SubSeq vs h = part_from_to_normal p (map out-Value vs) (layers_normal vs h)
table_normal w p o vs h = tt
