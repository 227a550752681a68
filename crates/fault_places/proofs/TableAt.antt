-- The operators that join their operands are Wrong and Big at their own place.
use Rattle.std.proofs.Common.{zero, suc, ◌-◌, Bool, List, [], ◌∷◌, ◌++◌, length, map, take, drop, nat_le, Option, Some, None, ℤ, pos, negsuc, ◌+ℤ◌, ◌-ℤ◌, ◌*ℤ◌, neg_ℤ, int_le}
use Rattle.tla_values.specs.Integers.{floor_quotient, floor_remainder}
use Rattle.tla_values.specs.Order.{Layer}
use Rattle.tla_values.specs.Sets.{apply, arguments}
use Rattle.tla_values.specs.declared.value.Value.{Value, out-Value}
use Rattle.tla_values.specs.declared.value.Value.TheVariants as value
use Rattle.tla_values.specs.declared.value.Value.TheOpen as layer
use Rattle.tla_meaning.specs.declared.op.Op.{Op}
use Rattle.tla_meaning.specs.declared.op.Op.TheVariants as op
use Rattle.tla_meaning.specs.declared.place.Place.{Place}
use Rattle.tla_meaning.specs.declared.outcome.Outcome.{Outcome}
use Rattle.tla_meaning.specs.declared.outcome.Outcome.TheVariants.{Val, Wrong, Big}
use Rattle.tla_meaning.specs.Numbers.{Width, in_width, number, quotient, remainder, power, power_of}
use Rattle.tla_meaning.specs.Operators.{table, or_wrong, on_truth, on_truths, on_number, on_numbers, on_set, on_sets, on_function, on_functions, on_items, on_sequence, on_sequences, on_two, on_all_sets, applied, domain, head_of, tail_of, part_of, part_from_to, appended}
use Rattle.tla_meaning.specs.Shapes.{sequence, items_of, all_set_items, union_all}
use Rattle.fault_places.proofs.FaultsAt.{OutcomeAt, either_at}

-- ---- operands by their kinds

module _ (P : Place → Type 0) (p : Place) (here : P p) where
  on_truth_at : (f : Bool → Outcome) → ((a : Bool) → OutcomeAt P (f a)) → (ls : List (Layer Value)) →
      OutcomeAt P (on_truth p f ls)
  on_truth_at f r (layer.Bool a ∷ []) = r a
  on_truth_at f r ls = here

  on_truths_at : (f : Bool → Bool → Outcome) → ((a b : Bool) → OutcomeAt P (f a b)) →
      (ls : List (Layer Value)) → OutcomeAt P (on_truths p f ls)
  on_truths_at f r (layer.Bool a ∷ layer.Bool b ∷ []) = r a b
  on_truths_at f r ls = here

  on_number_at : (f : ℤ → Outcome) → ((a : ℤ) → OutcomeAt P (f a)) → (ls : List (Layer Value)) →
      OutcomeAt P (on_number p f ls)
  on_number_at f r (layer.Int a ∷ []) = r a
  on_number_at f r ls = here

  on_numbers_at : (f : ℤ → ℤ → Outcome) → ((a b : ℤ) → OutcomeAt P (f a b)) →
      (ls : List (Layer Value)) → OutcomeAt P (on_numbers p f ls)
  on_numbers_at f r (layer.Int a ∷ layer.Int b ∷ []) = r a b
  on_numbers_at f r ls = here

  on_set_at : (f : List Value → Outcome) → ((xs : List Value) → OutcomeAt P (f xs)) →
      (ls : List (Layer Value)) → OutcomeAt P (on_set p f ls)
  on_set_at f r (layer.Set xs ∷ []) = r xs
  on_set_at f r ls = here

  on_sets_at : (f : List Value → List Value → Outcome) → ((xs ys : List Value) → OutcomeAt P (f xs ys)) →
      (ls : List (Layer Value)) → OutcomeAt P (on_sets p f ls)
  on_sets_at f r (layer.Set xs ∷ layer.Set ys ∷ []) = r xs ys
  on_sets_at f r ls = here

  on_function_at : (f : List (Value × Value) → Outcome) → ((ps : List (Value × Value)) → OutcomeAt P (f ps)) →
      (ls : List (Layer Value)) → OutcomeAt P (on_function p f ls)
  on_function_at f r (layer.Fun ps ∷ []) = r ps
  on_function_at f r ls = here

  on_functions_at : (f : List (Value × Value) → List (Value × Value) → Outcome) →
      ((ps qs : List (Value × Value)) → OutcomeAt P (f ps qs)) → (ls : List (Layer Value)) →
      OutcomeAt P (on_functions p f ls)
  on_functions_at f r (layer.Fun ps ∷ layer.Fun qs ∷ []) = r ps qs
  on_functions_at f r ls = here

  pub on_items_at : (f : List Value → Outcome) → ((xs : List Value) → OutcomeAt P (f xs)) →
      (o : Option (List Value)) → OutcomeAt P (on_items p f o)
  on_items_at f r None = here
  on_items_at f r (Some xs) = r xs

  on_sequence_at : (f : List Value → Outcome) → ((xs : List Value) → OutcomeAt P (f xs)) →
      (ls : List (Layer Value)) → OutcomeAt P (on_sequence p f ls)
  on_sequence_at f r ls = on_function_at (λ ps. on_items p f (items_of ps)) (λ ps. on_items_at f r (items_of ps)) ls

  on_sequences_at : (f : List Value → List Value → Outcome) → ((xs ys : List Value) → OutcomeAt P (f xs ys)) →
      (ls : List (Layer Value)) → OutcomeAt P (on_sequences p f ls)
  on_sequences_at f r ls =
      on_functions_at (λ ps qs. on_items p (λ xs. on_items p (λ ys. f xs ys) (items_of qs)) (items_of ps)) (λ ps qs.
      on_items_at (λ xs. on_items p (λ ys. f xs ys) (items_of qs))
      (λ xs. on_items_at (λ ys. f xs ys) (λ ys. r xs ys) (items_of qs)) (items_of ps)) ls

  on_two_at : (f : Value → Value → Outcome) → ((a b : Value) → OutcomeAt P (f a b)) → (vs : List Value) →
      OutcomeAt P (on_two p f vs)
  on_two_at f r (a ∷ b ∷ []) = r a b
  on_two_at f r vs = here

  pub on_all_sets_at : (f : List (List Value) → Outcome) → ((xss : List (List Value)) → OutcomeAt P (f xss)) →
      (vs : List Value) → OutcomeAt P (on_all_sets p f vs)
  on_all_sets_at f r vs = by_items (all_set_items vs)
    where
      by_items : (o : Option (List (List Value))) → OutcomeAt P (elim o [ None ↦ Wrong p | Some xss ↦ f xss ])
      by_items None = here
      by_items (Some xss) = r xss

  -- ---- functions and sequences

  or_wrong_at : (o : Option Value) → OutcomeAt P (or_wrong p o)
  or_wrong_at None = here
  or_wrong_at (Some v) = tt

  applied_at : (l : Layer Value) (a : Value) → OutcomeAt P (applied p l a)
  applied_at (layer.Fun ps) a = or_wrong_at (apply ps a)
  applied_at l a = here

  head_at : (xs : List Value) → OutcomeAt P (head_of p xs)
  head_at [] = here
  head_at (x ∷ xs) = tt

  tail_at : (xs : List Value) → OutcomeAt P (tail_of p xs)
  tail_at [] = here
  tail_at (x ∷ xs) = tt

  part_at : (xs : List Value) (m n : ℤ) → OutcomeAt P (part_of p xs m n)
  part_at xs (pos (suc m)) (pos n) =
      either_at P (nat_le (suc m) n) _ _
      (either_at P (nat_le n (length xs)) (Val (sequence (take (n - m) (drop m xs)))) (Wrong p) tt here) tt
  part_at xs m n = either_at P (int_le m n) (Wrong p) (Val (sequence [])) here tt

  part_from_to_at : (ls : List (Layer Value)) → OutcomeAt P (part_from_to p ls)
  part_from_to_at (layer.Fun ps ∷ layer.Int m ∷ layer.Int n ∷ []) =
      on_items_at (λ xs. part_of p xs m n) (λ xs. part_at xs m n) (items_of ps)
  part_from_to_at ls = here

  appended_at : (ls : List (Layer Value)) (vs : List Value) → OutcomeAt P (appended p ls vs)
  appended_at (layer.Fun ps ∷ x ∷ []) (v ∷ y ∷ []) =
      on_items_at (λ xs. Val (sequence (xs ++ y ∷ []))) (λ xs. tt) (items_of ps)
  appended_at ls vs = here

-- ---- numbers, and the table

module _ (P : Place → Type 0) (w : Width) (p : Place) (here : P p) where
  pub number_at : (n : ℤ) → OutcomeAt P (number w p n)
  number_at n = either_at P (in_width w n) (Val (value.Int n)) (Big p) tt here

  quotient_at : (a b : ℤ) → OutcomeAt P (quotient w p a b)
  quotient_at a (pos zero) = here
  quotient_at a (pos (suc b)) = number_at (floor_quotient a (suc b))
  quotient_at a (negsuc b) = here

  remainder_at : (a b : ℤ) → OutcomeAt P (remainder w p a b)
  remainder_at a (pos zero) = here
  remainder_at a (pos (suc b)) = number_at (floor_remainder a (suc b))
  remainder_at a (negsuc b) = here

  power_at : (a b : ℤ) → OutcomeAt P (power w p a b)
  power_at a (pos n) = number_at (power_of a n)
  power_at a (negsuc n) = here

  domain_at : (ps : List (Value × Value)) (o : Option (List Value)) → OutcomeAt P (domain w p ps o)
  domain_at ps None = tt
  domain_at ps (Some xs) = either_at P (in_width w (pos (length xs))) (Val (value.Set (arguments ps))) (Big p) tt here

  pub table_at : (o : Op) (vs : List Value) → OutcomeAt P (table w p o vs)
  table_at op.Not vs = on_truth_at P p here _ (λ a. tt) (map out-Value vs)
  table_at op.Iff vs = on_truths_at P p here _ (λ a b. tt) (map out-Value vs)
  table_at op.Eq vs = on_two_at P p here _ (λ a b. tt) vs
  table_at op.Ne vs = on_two_at P p here _ (λ a b. tt) vs
  table_at op.Assign vs = on_two_at P p here _ (λ a b. tt) vs
  table_at op.Lt vs = on_numbers_at P p here _ (λ a b. tt) (map out-Value vs)
  table_at op.Gt vs = on_numbers_at P p here _ (λ a b. tt) (map out-Value vs)
  table_at op.Le vs = on_numbers_at P p here _ (λ a b. tt) (map out-Value vs)
  table_at op.Ge vs = on_numbers_at P p here _ (λ a b. tt) (map out-Value vs)
  table_at op.Add vs = on_numbers_at P p here _ (λ a b. number_at (a +ℤ b)) (map out-Value vs)
  table_at op.Sub vs = on_numbers_at P p here _ (λ a b. number_at (a -ℤ b)) (map out-Value vs)
  table_at op.Mul vs = on_numbers_at P p here _ (λ a b. number_at (a *ℤ b)) (map out-Value vs)
  table_at op.Neg vs = on_number_at P p here _ (λ a. number_at (neg_ℤ a)) (map out-Value vs)
  table_at op.Div vs = on_numbers_at P p here (quotient w p) (quotient_at) (map out-Value vs)
  table_at op.Mod vs = on_numbers_at P p here (remainder w p) (remainder_at) (map out-Value vs)
  table_at op.Pow vs = on_numbers_at P p here (power w p) (power_at) (map out-Value vs)
  table_at op.Range vs = on_numbers_at P p here _ (λ a b. tt) (map out-Value vs)
  table_at op.SetEnum vs = tt
  table_at op.Cup vs = on_sets_at P p here _ (λ xs ys. tt) (map out-Value vs)
  table_at op.Cap vs = on_sets_at P p here _ (λ xs ys. tt) (map out-Value vs)
  table_at op.Minus vs = on_sets_at P p here _ (λ xs ys. tt) (map out-Value vs)
  table_at op.Powerset vs = on_set_at P p here _ (λ xs. tt) (map out-Value vs)
  table_at op.FunSet vs = on_sets_at P p here _ (λ xs ys. tt) (map out-Value vs)
  table_at (op.RecSet names) vs = on_all_sets_at P p here _ (λ xss. tt) vs
  table_at op.Product vs = on_all_sets_at P p here _ (λ xss. tt) vs
  table_at op.BigUnion vs =
      on_set_at P p here (on_all_sets p (λ xss. Val (value.Set (union_all xss))))
      (λ xs. on_all_sets_at P p here (λ xss. Val (value.Set (union_all xss))) (λ xss. tt) xs) (map out-Value vs)
  table_at op.BooleanSet vs = tt
  table_at op.Cardinality vs = on_set_at P p here _ (λ xs. number_at (pos (length xs))) (map out-Value vs)
  table_at op.IsFinite vs = on_set_at P p here _ (λ xs. tt) (map out-Value vs)
  table_at op.Apply vs = on_two_at P p here _ (λ f a. applied_at P p here (out-Value f) a) vs
  table_at op.Domain vs = on_function_at P p here _ (λ ps. domain_at ps (items_of ps)) (map out-Value vs)
  table_at op.Merge vs = on_functions_at P p here _ (λ ps qs. tt) (map out-Value vs)
  table_at op.Single vs = on_two_at P p here _ (λ a b. tt) vs
  table_at (op.Record names) vs = tt
  table_at (op.Field name) vs =
      on_function_at P p here _ (λ ps. or_wrong_at P p here (apply ps (value.Text name))) (map out-Value vs)
  table_at op.Tuple vs = tt
  table_at op.Len vs = on_sequence_at P p here _ (λ xs. number_at (pos (length xs))) (map out-Value vs)
  table_at op.Append vs = appended_at P p here (map out-Value vs) vs
  table_at op.Concat vs = on_sequences_at P p here _ (λ xs ys. tt) (map out-Value vs)
  table_at op.Head vs = on_sequence_at P p here (head_of p) (head_at P p here) (map out-Value vs)
  table_at op.Tail vs = on_sequence_at P p here (tail_of p) (tail_at P p here) (map out-Value vs)
  table_at op.SubSeq vs = part_from_to_at P p here (map out-Value vs)
  table_at o vs = here
