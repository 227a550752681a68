-- The operators that join their operands: what each gives of their values.
use Rattle.std.specs.Prelude.{suc, ◌-◌, Bool, true, false, not, List, [], ◌∷◌, ◌++◌, map, length, take, drop, Option, Some, None, ℤ, pos, ◌+ℤ◌, ◌-ℤ◌, ◌*ℤ◌, neg_ℤ, int_lt, int_le, nat_le, if◌then◌else◌}
use Rattle.tla_values.specs.Order.{Layer, same_value}
use Rattle.tla_values.specs.Sets.{union_of, inter_of, minus, apply, arguments}
use Rattle.tla_values.specs.declared.value.Value.{Value, out-Value}
use Rattle.tla_values.specs.declared.value.Value.TheVariants as value
use Rattle.tla_values.specs.declared.value.Value.TheOpen as layer
use Rattle.tla_meaning.specs.declared.op.Op.{Op}
use Rattle.tla_meaning.specs.declared.op.Op.TheVariants as op
use Rattle.tla_meaning.specs.declared.place.Place.{Place}
use Rattle.tla_meaning.specs.declared.outcome.Outcome.{Outcome}
use Rattle.tla_meaning.specs.declared.outcome.Outcome.TheVariants.{Val, Wrong, Big}
use Rattle.tla_meaning.specs.Numbers.{Width, number, quotient, remainder, power, range, in_width}
use Rattle.tla_meaning.specs.Shapes.{truth, the_set, the_function, sequence, record_of, items_of, all_set_items, union_all, subsets, functions, records, tuples}

abbrev pub yes_no : Bool → Outcome
yes_no b = Val (truth b)

-- Wrong at p where there is none
abbrev pub or_wrong : Place → Option Value → Outcome
or_wrong p None = Wrong p
or_wrong p (Some v) = Val v

-- operands of these kinds, and else Wrong at p
abbrev pub on_truth : Place → (Bool → Outcome) → List (Layer Value) → Outcome
on_truth p f (layer.Bool a ∷ []) = f a
on_truth p f vs = Wrong p

abbrev pub on_truths : Place → (Bool → Bool → Outcome) → List (Layer Value) → Outcome
on_truths p f (layer.Bool a ∷ layer.Bool b ∷ []) = f a b
on_truths p f vs = Wrong p

abbrev pub on_number : Place → (ℤ → Outcome) → List (Layer Value) → Outcome
on_number p f (layer.Int a ∷ []) = f a
on_number p f vs = Wrong p

abbrev pub on_numbers : Place → (ℤ → ℤ → Outcome) → List (Layer Value) → Outcome
on_numbers p f (layer.Int a ∷ layer.Int b ∷ []) = f a b
on_numbers p f vs = Wrong p

abbrev pub on_set : Place → (List Value → Outcome) → List (Layer Value) → Outcome
on_set p f (layer.Set xs ∷ []) = f xs
on_set p f vs = Wrong p

abbrev pub on_sets : Place → (List Value → List Value → Outcome) → List (Layer Value) → Outcome
on_sets p f (layer.Set xs ∷ layer.Set ys ∷ []) = f xs ys
on_sets p f vs = Wrong p

abbrev pub on_function : Place → (List (Value × Value) → Outcome) → List (Layer Value) → Outcome
on_function p f (layer.Fun ps ∷ []) = f ps
on_function p f vs = Wrong p

abbrev pub on_functions : Place → (List (Value × Value) → List (Value × Value) → Outcome) → List (Layer Value) → Outcome
on_functions p f (layer.Fun ps ∷ layer.Fun qs ∷ []) = f ps qs
on_functions p f vs = Wrong p

abbrev pub on_items : Place → (List Value → Outcome) → Option (List Value) → Outcome
on_items p f None = Wrong p
on_items p f (Some xs) = f xs

abbrev pub on_sequence : Place → (List Value → Outcome) → List (Layer Value) → Outcome
on_sequence p f vs = on_function p (λ ps. on_items p f (items_of ps)) vs

abbrev pub on_sequences : Place → (List Value → List Value → Outcome) → List (Layer Value) → Outcome
on_sequences p f vs =
    on_functions p (λ ps qs. on_items p (λ xs. on_items p (λ ys. f xs ys) (items_of qs)) (items_of ps)) vs

abbrev pub on_two : Place → (Value → Value → Outcome) → List Value → Outcome
on_two p f (v ∷ w ∷ []) = f v w
on_two p f vs = Wrong p

abbrev pub on_all_sets : Place → (List (List Value) → Outcome) → List Value → Outcome
on_all_sets p f vs =
    elim (all_set_items vs) [ None ↦ Wrong p | Some xss ↦ f xss ]

-- a function and an argument
abbrev pub applied : Place → Layer Value → Value → Outcome
applied p (layer.Fun ps) a = or_wrong p (apply ps a)
applied p x a = Wrong p

-- the arguments; Big where a sequence's length is outside the width
abbrev pub domain : Width → Place → List (Value × Value) → Option (List Value) → Outcome
domain w p ps None = Val (value.Set (arguments ps))
domain w p ps (Some xs) =
    if in_width w (pos (length xs)) then Val (value.Set (arguments ps)) else Big p

abbrev pub head_of : Place → List Value → Outcome
head_of p [] = Wrong p
head_of p (x ∷ xs) = Val x

abbrev pub tail_of : Place → List Value → Outcome
tail_of p [] = Wrong p
tail_of p (x ∷ xs) = Val (sequence xs)

-- the items from m to n
abbrev pub part_of : Place → List Value → ℤ → ℤ → Outcome
part_of p xs (pos (suc m)) (pos n) =
    if nat_le (suc m) n
    then (if nat_le n (length xs) then Val (sequence (take (n - m) (drop m xs))) else Wrong p)
    else Val (sequence [])
part_of p xs m n = if int_le m n then Wrong p else Val (sequence [])

abbrev pub part_from_to : Place → List (Layer Value) → Outcome
part_from_to p (layer.Fun ps ∷ layer.Int m ∷ layer.Int n ∷ []) = on_items p (λ xs. part_of p xs m n) (items_of ps)
part_from_to p vs = Wrong p

abbrev pub appended : Place → List (Layer Value) → List Value → Outcome
appended p (layer.Fun ps ∷ x ∷ []) (v ∷ y ∷ []) = on_items p (λ xs. Val (sequence (xs ++ y ∷ []))) (items_of ps)
appended p ls vs = Wrong p

-- what an operator gives of its operands' values, at width w and place p
abbrev pub table : Width → Place → Op → List Value → Outcome
table w p op.Not vs = on_truth p (λ a. yes_no (not a)) (map out-Value vs)
table w p op.Iff vs = on_truths p (λ a b. yes_no (same_value (truth a) (truth b))) (map out-Value vs)
table w p op.Eq vs = on_two p (λ a b. yes_no (same_value a b)) vs
table w p op.Ne vs = on_two p (λ a b. yes_no (not (same_value a b))) vs
table w p op.Assign vs = on_two p (λ a b. yes_no (same_value a b)) vs
table w p op.Lt vs = on_numbers p (λ a b. yes_no (int_lt a b)) (map out-Value vs)
table w p op.Gt vs = on_numbers p (λ a b. yes_no (int_lt b a)) (map out-Value vs)
table w p op.Le vs = on_numbers p (λ a b. yes_no (int_le a b)) (map out-Value vs)
table w p op.Ge vs = on_numbers p (λ a b. yes_no (int_le b a)) (map out-Value vs)
table w p op.Add vs = on_numbers p (λ a b. number w p (a +ℤ b)) (map out-Value vs)
table w p op.Sub vs = on_numbers p (λ a b. number w p (a -ℤ b)) (map out-Value vs)
table w p op.Mul vs = on_numbers p (λ a b. number w p (a *ℤ b)) (map out-Value vs)
table w p op.Neg vs = on_number p (λ a. number w p (neg_ℤ a)) (map out-Value vs)
table w p op.Div vs = on_numbers p (quotient w p) (map out-Value vs)
table w p op.Mod vs = on_numbers p (remainder w p) (map out-Value vs)
table w p op.Pow vs = on_numbers p (power w p) (map out-Value vs)
table w p op.Range vs = on_numbers p (λ a b. Val (value.Set (range a b))) (map out-Value vs)
table w p op.SetEnum vs = Val (the_set vs)
table w p op.Cup vs = on_sets p (λ xs ys. Val (value.Set (union_of xs ys))) (map out-Value vs)
table w p op.Cap vs = on_sets p (λ xs ys. Val (value.Set (inter_of xs ys))) (map out-Value vs)
table w p op.Minus vs = on_sets p (λ xs ys. Val (value.Set (minus xs ys))) (map out-Value vs)
table w p op.Powerset vs = on_set p (λ xs. Val (subsets xs)) (map out-Value vs)
table w p op.FunSet vs = on_sets p (λ xs ts. Val (functions xs ts)) (map out-Value vs)
table w p (op.RecSet names) vs = on_all_sets p (λ xss. Val (records names xss)) vs
table w p op.Product vs = on_all_sets p (λ xss. Val (tuples xss)) vs
table w p op.BigUnion vs = on_set p (on_all_sets p (λ xss. Val (value.Set (union_all xss)))) (map out-Value vs)
table w p op.BooleanSet vs = Val (value.Set (truth false ∷ truth true ∷ []))
table w p op.Cardinality vs = on_set p (λ xs. number w p (pos (length xs))) (map out-Value vs)
table w p op.IsFinite vs = on_set p (λ xs. yes_no true) (map out-Value vs)
table w p op.Apply vs = on_two p (λ f a. applied p (out-Value f) a) vs
table w p op.Domain vs = on_function p (λ ps. domain w p ps (items_of ps)) (map out-Value vs)
table w p op.Merge vs = on_functions p (λ ps qs. Val (the_function (ps ++ qs))) (map out-Value vs)
table w p op.Single vs = on_two p (λ a v. Val (value.Fun ((a, v) ∷ []))) vs
table w p (op.Record names) vs = Val (record_of names vs)
table w p (op.Field name) vs = on_function p (λ ps. or_wrong p (apply ps (value.Text name))) (map out-Value vs)
table w p op.Tuple vs = Val (sequence vs)
table w p op.Len vs = on_sequence p (λ xs. number w p (pos (length xs))) (map out-Value vs)
table w p op.Append vs = appended p (map out-Value vs) vs
table w p op.Concat vs = on_sequences p (λ xs ys. Val (sequence (xs ++ ys))) (map out-Value vs)
table w p op.Head vs = on_sequence p (head_of p) (map out-Value vs)
table w p op.Tail vs = on_sequence p (tail_of p) (map out-Value vs)
table w p op.SubSeq vs = part_from_to p (map out-Value vs)
table w p o vs = Wrong p
