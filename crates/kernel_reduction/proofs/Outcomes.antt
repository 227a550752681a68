-- Outcomes of operators over others: negations, operands the other way round, faults.
use Rattle.std.proofs.Common.{◌≡◌, ℕ, Bool, true, false, not, List, [], ◌∷◌, map, refl, sym, ◌∙◌, ap, Option, Some, None, ℤ, pos, neg_ℤ, ◌-ℤ◌, int_lt, int_le, arith, if◌then◌else◌, option_map, option_and_then}
use Rattle.std.specs.List.{list_all}
use Rattle.std.proofs.lemmas.Int.{ints}
use Rattle.std.proofs.lemmas.Bool.Decides.{nat_tests}
use Rattle.tla_values.specs.Order.{Layer, same_value}
use Rattle.tla_values.specs.Sets.{apply}
use Rattle.tla_values.specs.declared.value.Value.{Value, out-Value}
use Rattle.tla_values.specs.declared.value.Value.TheVariants as value
use Rattle.tla_values.specs.declared.value.Value.TheOpen as layer
use Rattle.tla_meaning.specs.declared.forms.SetForm.{SetForm}
use Rattle.tla_meaning.specs.declared.op.Op.TheVariants as op
use Rattle.tla_meaning.specs.declared.place.Place.{Place}
use Rattle.tla_meaning.specs.declared.outcome.Fault.{Fault}
use Rattle.tla_meaning.specs.declared.outcome.Fault.TheVariants.{NoFault, IsWrong, IsBig}
use Rattle.tla_meaning.specs.declared.outcome.Outcome.{Outcome}
use Rattle.tla_meaning.specs.declared.outcome.Outcome.TheVariants.{Val, Wrong, Big}
use Rattle.tla_meaning.specs.Outcomes.{join_faults, joined, values, fault_or, strict, with_value}
use Rattle.tla_meaning.specs.Shapes.{truth, sequence}
use Rattle.tla_meaning.specs.Forms.{Formed, Made, Broken, form_fault, is_set_form, belongs}
use Rattle.tla_meaning.specs.Operators.{table, yes_no, on_truth, on_number, on_numbers, applied, or_wrong, on_function}
use Rattle.tla_meaning.specs.Numbers.{Width, number}
use Rattle.tla_meaning.specs.Meaning.{by_truth, choose, conjoined, implied, in_form, truth_of, truths, on_all_truths}
use Rattle.tla_meaning.proofs.Joins.{both_comm}

-- ---- operators that join their operands

pub strict_by : (os : List Outcome) (f g : List Value → Outcome) → ((vs : List Value) → f vs ≡ g vs) →
    strict os f ≡ strict os g
strict_by os f g h = ap (fault_or (joined os)) (h (values os))

left_none : (f g : Fault) → join_faults f g ≡ NoFault → f ≡ NoFault
left_none NoFault g e = refl
left_none (IsWrong p) NoFault e = e
left_none (IsWrong p) (IsWrong q) e = cc
left_none (IsWrong p) (IsBig q) e = e
left_none (IsBig p) NoFault e = e
left_none (IsBig p) (IsWrong q) e = cc
left_none (IsBig p) (IsBig q) e = cc

wrong≢none : {p : Place} → IsWrong p ≡ NoFault → ⊥
wrong≢none e = cc

big≢none : {p : Place} → IsBig p ≡ NoFault → ⊥
big≢none e = cc

-- operands without a fault are values
pub all_values : (os : List Outcome) → joined os ≡ NoFault → os ≡ map Val (values os)
all_values [] h = refl
all_values (Val v ∷ os) h = ap (λ l. Val v ∷ l) (all_values os h)
all_values (Wrong p ∷ os) h = absurd (wrong≢none (left_none (IsWrong p) (joined os) h))
all_values (Big p ∷ os) h = absurd (big≢none (left_none (IsBig p) (joined os) h))

-- operators that agree where the operands have values
pub strict_same : (os : List Outcome) (f g : List Value → Outcome) →
    ((vs : List Value) → os ≡ map Val vs → f vs ≡ g vs) → strict os f ≡ strict os g
strict_same os f g h = by (joined os) refl
  where
    by : (x : Fault) → joined os ≡ x → fault_or x (f (values os)) ≡ fault_or x (g (values os))
    by NoFault e = h (values os) (all_values os e)
    by (IsWrong p) e = refl
    by (IsBig p) e = refl

-- ---- lists of outcomes

pub one_value : {a : Outcome} {u : Outcome} {as' us : List Outcome} → a ∷ as' ≡ u ∷ us → a ≡ u
one_value e = cc

pub other_values : {a : Outcome} {u : Outcome} {as' us : List Outcome} → a ∷ as' ≡ u ∷ us → as' ≡ us
other_values e = cc

pub cons≢none : {x : Outcome} {xs : List Outcome} → x ∷ xs ≡ [] → ⊥
cons≢none e = cc

pub none≢cons : {x : Outcome} {xs : List Outcome} → [] ≡ x ∷ xs → ⊥
none≢cons e = cc

-- ---- negations

abbrev pub negated : Width → Place → Outcome → Outcome
negated w p o = strict (o ∷ []) (table w p op.Not)

abbrev pub not_layer : Place → Layer Value → Outcome
not_layer p l = by_truth p l (yes_no false) (yes_no true)

pub negated_is : (w : Width) (p : Place) (v : Value) (l : Layer Value) → out-Value v ≡ l →
    negated w p (Val v) ≡ not_layer p l
negated_is w p v l q = ap (at_layer w p) q ∙ by l
  where
    at_layer : Width → Place → Layer Value → Outcome
    at_layer w p l = on_truth p (λ a. yes_no (not a)) (l ∷ [])

    by : (l : Layer Value) → on_truth p (λ a. yes_no (not a)) (l ∷ []) ≡ not_layer p l
    by (layer.Bool true) = refl
    by (layer.Bool false) = refl
    by (layer.Int i) = refl
    by (layer.Text a) = refl
    by (layer.Set xs) = refl
    by (layer.Fun ps) = refl

pub not_truth : (w : Width) (p : Place) (b : Bool) → negated w p (yes_no b) ≡ yes_no (not b)
not_truth w p b = ap (λ (l : Layer Value). on_truth p (λ a. yes_no (not a)) (l ∷ [])) (value.outs-Bool b)

truth_opened : (p : Place) (b : Bool) (x y : Outcome) →
    by_truth p (out-Value (truth b)) x y ≡ by_truth p (layer.Bool b) x y
truth_opened p b x y = ap (λ (l : Layer Value). by_truth p l x y) (value.outs-Bool b)

-- a negation chooses the other way
pub choose_not : (w : Width) (p : Place) (o x y : Outcome) → choose p (negated w p o) x y ≡ choose p o y x
choose_not w p (Wrong q) x y = refl
choose_not w p (Big q) x y = refl
choose_not w p (Val v) x y = ap (λ o. choose p o x y) (negated_is w p v (out-Value v) refl) ∙ by (out-Value v)
  where
    by : (l : Layer Value) → choose p (not_layer p l) x y ≡ by_truth p l y x
    by (layer.Bool true) = truth_opened p false x y
    by (layer.Bool false) = truth_opened p true x y
    by (layer.Int i) = refl
    by (layer.Text a) = refl
    by (layer.Set xs) = refl
    by (layer.Fun ps) = refl

-- and is chosen so
not_choose : (w : Width) (p : Place) (o : Outcome) (b c : Bool) →
    negated w p (choose p o (yes_no b) (yes_no c)) ≡ choose p o (yes_no (not b)) (yes_no (not c))
not_choose w p (Wrong q) b c = refl
not_choose w p (Big q) b c = refl
not_choose w p (Val v) b c = by (out-Value v)
  where
    by : (l : Layer Value) →
        negated w p (by_truth p l (yes_no b) (yes_no c)) ≡ by_truth p l (yes_no (not b)) (yes_no (not c))
    by (layer.Bool true) = not_truth w p b
    by (layer.Bool false) = not_truth w p c
    by (layer.Int i) = refl
    by (layer.Text a) = refl
    by (layer.Set xs) = refl
    by (layer.Fun ps) = refl

-- `a => b` is `~(a /\ ~b)`
pub implies_row : (w : Width) (p : Place) (a b : Outcome) →
    implied p (a ∷ b ∷ []) ≡ negated w p (conjoined p (a ∷ negated w p b ∷ []))
implies_row w p (Wrong q) b = refl
implies_row w p (Big q) b = refl
implies_row w p (Val v) b = by (out-Value v)
  where
    by : (l : Layer Value) →
        by_truth p l (choose p b (yes_no true) (yes_no false)) (yes_no true)
        ≡ negated w p (by_truth p l (choose p (negated w p b) (yes_no true) (yes_no false)) (yes_no false))
    by (layer.Bool true) =
        sym (ap (negated w p) (choose_not w p b (yes_no true) (yes_no false)) ∙ not_choose w p b false true)
    by (layer.Bool false) = sym (not_truth w p false)
    by (layer.Int i) = refl
    by (layer.Text a) = refl
    by (layer.Set xs) = refl
    by (layer.Fun ps) = refl

-- an operator that joins its operands, negated
pub negated_strict : (w : Width) (p : Place) (os : List Outcome) (f g : List Value → Outcome) →
    ((vs : List Value) → negated w p (f vs) ≡ g vs) →
    negated w p (strict os f) ≡ strict os g
negated_strict w p os f g h = by (joined os)
  where
    by : (x : Fault) → negated w p (fault_or x (f (values os))) ≡ fault_or x (g (values os))
    by NoFault = h (values os)
    by (IsWrong q) = refl
    by (IsBig q) = refl

-- `a # b` is `~(a = b)`
pub unequal_at : (w : Width) (p : Place) (vs : List Value) → negated w p (table w p op.Eq vs) ≡ table w p op.Ne vs
unequal_at w p [] = refl
unequal_at w p (u ∷ []) = refl
unequal_at w p (u ∷ v ∷ []) = not_truth w p (same_value u v)
unequal_at w p (u ∷ v ∷ x ∷ vs) = refl

-- `x \notin S` is `~(x \in S)`
not_in_set : (w : Width) (p : Place) (v : Value) (f : SetForm) (b : Bool) →
    negated w p (if b then yes_no (belongs f v) else Wrong p) ≡ (if b then yes_no (not (belongs f v)) else Wrong p)
not_in_set w p v f true = not_truth w p (belongs f v)
not_in_set w p v f false = refl

not_fault : (w : Width) (p : Place) (g : Fault) →
    negated w p (elim g [ NoFault ↦ Wrong p | IsWrong q ↦ Wrong q | IsBig q ↦ Big q ])
    ≡ elim g [ NoFault ↦ Wrong p | IsWrong q ↦ Wrong q | IsBig q ↦ Big q ]
not_fault w p NoFault = refl
not_fault w p (IsWrong q) = refl
not_fault w p (IsBig q) = refl

no_forms : (p : Place) (test : Value → SetForm → Outcome) (o : Outcome) (os : List Outcome) →
    in_form p test (o ∷ os) [] ≡ Wrong p
no_forms p test (Val v) os = refl
no_forms p test (Wrong q) os = refl
no_forms p test (Big q) os = refl

one_form : (p : Place) (test : Value → SetForm → Outcome) (o : Outcome) (os : List Outcome) (d : Formed) →
    in_form p test (o ∷ os) (d ∷ []) ≡ Wrong p
one_form p test (Val v) os d = refl
one_form p test (Wrong q) os d = refl
one_form p test (Big q) os d = refl

more_forms : (p : Place) (test : Value → SetForm → Outcome) (o : Outcome) (os : List Outcome) (d f g : Formed)
    (fs : List Formed) →
    in_form p test (o ∷ os) (d ∷ f ∷ g ∷ fs) ≡ Wrong p
more_forms p test (Val v) os d (Made f) g fs = refl
more_forms p test (Val v) os d (Broken f) g fs = refl
more_forms p test (Wrong q) os d f g fs = refl
more_forms p test (Big q) os d f g fs = refl

pub not_in_row : (w : Width) (p : Place) (os : List Outcome) (fs : List Formed) →
    negated w p (in_form p (λ v f. yes_no (belongs f v)) os fs) ≡ in_form p (λ v f. yes_no (not (belongs f v))) os fs
not_in_row w p [] fs = refl
not_in_row w p (Val v ∷ os) (d ∷ Made f ∷ []) = not_in_set w p v f (is_set_form f)
not_in_row w p (Val v ∷ os) (d ∷ Broken g ∷ []) = not_fault w p g
not_in_row w p (Wrong q ∷ os) (d ∷ f ∷ []) = not_fault w p (join_faults (IsWrong q) (form_fault f))
not_in_row w p (Big q ∷ os) (d ∷ f ∷ []) = not_fault w p (join_faults (IsBig q) (form_fault f))
not_in_row w p (o ∷ os) [] = ap (negated w p) (no_forms p _ o os) ∙ sym (no_forms p _ o os)
not_in_row w p (o ∷ os) (d ∷ []) = ap (negated w p) (one_form p _ o os d) ∙ sym (one_form p _ o os d)
not_in_row w p (o ∷ os) (d ∷ f ∷ g ∷ fs) = ap (negated w p) (more_forms p _ o os d f g fs)
    ∙ sym (more_forms p _ o os d f g fs)

-- ---- comparisons

abbrev pub swapped_values : List Value → List Value
swapped_values (u ∷ v ∷ []) = v ∷ u ∷ []
swapped_values vs = vs

pub strict_swapped : (a b : Outcome) (f : List Value → Outcome) →
    strict (b ∷ a ∷ []) f ≡ strict (a ∷ b ∷ []) (λ vs. f (swapped_values vs))
strict_swapped (Val u) (Val v) f = refl
strict_swapped (Val u) (Wrong q) f = refl
strict_swapped (Val u) (Big q) f = refl
strict_swapped (Wrong p) (Val v) f = refl
strict_swapped (Wrong p) (Wrong q) f = ap (λ x. fault_or x (f [])) (both_comm (IsWrong q) (IsWrong p))
strict_swapped (Wrong p) (Big q) f = refl
strict_swapped (Big p) (Val v) f = refl
strict_swapped (Big p) (Wrong q) f = refl
strict_swapped (Big p) (Big q) f = ap (λ x. fault_or x (f [])) (both_comm (IsBig q) (IsBig p))

at_most_is : (m n : ℤ) → not (int_lt n m) ≡ int_le m n
at_most_is m n = grind (arith, ints, nat_tests)

one_number : (p : Place) (f : ℤ → ℤ → Outcome) (l : Layer Value) → on_numbers p f (l ∷ []) ≡ Wrong p
one_number p f (layer.Int i) = refl
one_number p f l = refl

more_numbers : (p : Place) (f : ℤ → ℤ → Outcome) (k l m : Layer Value) (ls : List (Layer Value)) →
    on_numbers p f (k ∷ l ∷ m ∷ ls) ≡ Wrong p
more_numbers p f (layer.Int i) (layer.Int j) m ls = refl
more_numbers p f k l m ls = refl

two_numbers : (p : Place) (f g : ℤ → ℤ → Outcome) → ((i j : ℤ) → f j i ≡ g i j) → (k l : Layer Value) →
    on_numbers p f (l ∷ k ∷ []) ≡ on_numbers p g (k ∷ l ∷ [])
two_numbers p f g h (layer.Int i) (layer.Int j) = h i j
two_numbers p f g h k (layer.Int j) = refl
two_numbers p f g h k l = refl

swapped_numbers : (p : Place) (f g : ℤ → ℤ → Outcome) → ((i j : ℤ) → f j i ≡ g i j) → (vs : List Value) →
    on_numbers p f (map out-Value (swapped_values vs)) ≡ on_numbers p g (map out-Value vs)
swapped_numbers p f g h [] = refl
swapped_numbers p f g h (u ∷ []) = one_number p f (out-Value u) ∙ sym (one_number p g (out-Value u))
swapped_numbers p f g h (u ∷ v ∷ []) = two_numbers p f g h (out-Value u) (out-Value v)
swapped_numbers p f g h (u ∷ v ∷ x ∷ vs) =
    more_numbers p f (out-Value u) (out-Value v) (out-Value x) (map out-Value vs)
    ∙ sym (more_numbers p g (out-Value u) (out-Value v) (out-Value x) (map out-Value vs))

pub greater_at : (w : Width) (p : Place) (vs : List Value) → table w p op.Lt (swapped_values vs) ≡ table w p op.Gt vs
greater_at w p vs = swapped_numbers p (λ a b. yes_no (int_lt a b)) (λ a b. yes_no (int_lt b a)) (λ i j. refl) vs

not_numbers : (w : Width) (p : Place) (ls : List (Layer Value)) →
    negated w p (on_numbers p (λ a b. yes_no (int_lt a b)) ls) ≡ on_numbers p (λ a b. yes_no (int_le b a)) ls
not_numbers w p [] = refl
not_numbers w p (k ∷ []) = ap (negated w p) (one_number p _ k) ∙ sym (one_number p _ k)
not_numbers w p (layer.Int i ∷ layer.Int j ∷ []) = not_truth w p (int_lt i j) ∙ ap yes_no (at_most_is j i)
not_numbers w p (k ∷ l ∷ []) = refl
not_numbers w p (k ∷ l ∷ m ∷ ls) = ap (negated w p) (more_numbers p _ k l m ls) ∙ sym (more_numbers p _ k l m ls)

pub not_less_at : (w : Width) (p : Place) (vs : List Value) → negated w p (table w p op.Lt vs) ≡ table w p op.Ge vs
not_less_at w p vs = not_numbers w p (map out-Value vs)

-- `a <= b` is `b >= a`
pub at_most_at : (w : Width) (p : Place) (vs : List Value) →
    negated w p (table w p op.Lt (swapped_values vs)) ≡ table w p op.Le vs
at_most_at w p vs =
    not_less_at w p (swapped_values vs)
    ∙ swapped_numbers p (λ a b. yes_no (int_le b a)) (λ a b. yes_no (int_le a b)) (λ i j. refl) vs

-- ---- `-a` is `0 - a`

zero_minus : (n : ℤ) → pos 0 -ℤ n ≡ neg_ℤ n
zero_minus n = omega (arith, ints)

pub negative_at : (w : Width) (p : Place) (vs : List Value) →
    table w p op.Sub (value.Int (pos 0) ∷ vs) ≡ table w p op.Neg vs
negative_at w p vs =
    ap (λ (l : Layer Value). on_numbers p (λ a b. number w p (a -ℤ b)) (l ∷ map out-Value vs)) (value.outs-Int (pos 0))
    ∙ by (map out-Value vs)
  where
    by : (ls : List (Layer Value)) →
        on_numbers p (λ a b. number w p (a -ℤ b)) (layer.Int (pos 0) ∷ ls) ≡ on_number p (λ a. number w p (neg_ℤ a)) ls
    by [] = refl
    by (layer.Int i ∷ []) = ap (number w p) (zero_minus i)
    by (l ∷ []) = refl
    by (layer.Int i ∷ k ∷ ls) = refl
    by (l ∷ k ∷ ls) = refl

-- ---- a test that is TRUE of all

abbrev AllTrue : List Value → Type 0
AllTrue vs = (bs : List Bool) × (truths vs ≡ Some bs) × (list_all (λ b. b) bs ≡ true)

trues : {X : Type 0} (cs : List X) → AllTrue (values (map (λ x. yes_no true) cs))
trues [] = ([], refl, refl)
trues (c ∷ cs) =
    let h = trues cs in (
      true ∷ h.0,
      ap (λ (l : Layer Value).
          option_and_then (λ b. option_map (λ bs. b ∷ bs) (truths (values (map (λ x. yes_no true) cs)))) (truth_of l))
          (value.outs-Bool true)
          ∙ ap (option_map (λ bs. true ∷ bs)) h.1,
      h.2,
    )

none_wrong : {X : Type 0} (cs : List X) → joined (map (λ x. yes_no true) cs) ≡ NoFault
none_wrong [] = refl
none_wrong (c ∷ cs) = none_wrong cs

pub all_true : {X : Type 0} (p : Place) (cs : List X) →
    strict (map (λ x. yes_no true) cs) (on_all_truths p (λ bs. yes_no (list_all (λ b. b) bs))) ≡ yes_no true
all_true p cs =
    let h = trues cs in
    ap (λ x. fault_or x (on_all_truths p (λ bs. yes_no (list_all (λ b. b) bs)) (values (map (λ x. yes_no true) cs))))
    (none_wrong cs)
    ∙ ap (λ (o : Option (List Bool)). elim o [ None ↦ Wrong p | Some bs ↦ yes_no (list_all (λ b. b) bs) ]) h.1
    ∙ ap yes_no h.2

-- ---- `f["a"]` is a field

pub field_row : (w : Width) (p : Place) (a : List ℕ) (o : Outcome) →
    strict (o ∷ []) (table w p (op.Field a)) ≡ strict (o ∷ Val (value.Text a) ∷ []) (table w p op.Apply)
field_row w p a (Wrong q) = refl
field_row w p a (Big q) = refl
field_row w p a (Val v) = by (out-Value v)
  where
    by : (l : Layer Value) →
        on_function p (λ ps. or_wrong p (apply ps (value.Text a))) (l ∷ []) ≡ applied p l (value.Text a)
    by (layer.Fun ps) = refl
    by (layer.Bool b) = refl
    by (layer.Int i) = refl
    by (layer.Text x) = refl
    by (layer.Set xs) = refl

-- ---- a tuple joins its items, and what follows has their values

pub tuple_then : (w : Width) (p : Place) (os : List Outcome) (f : Value → Outcome) →
    with_value (strict os (λ vs. Val (sequence vs))) f ≡ strict os (λ vs. f (sequence vs))
tuple_then w p os f = by (joined os)
  where
    by : (g : Fault) → with_value (fault_or g (Val (sequence (values os)))) f ≡ fault_or g (f (sequence (values os)))
    by NoFault = refl
    by (IsWrong q) = refl
    by (IsBig q) = refl

pub with_same : (o : Outcome) (f g : Value → Outcome) → ((v : Value) → f v ≡ g v) → with_value o f ≡ with_value o g
with_same o f g h = λ i. with_value o (λ v. h v i)
