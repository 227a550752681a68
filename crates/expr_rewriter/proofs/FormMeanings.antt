-- Forms of kernel trees: a fault is one, and the form of a node by those of its parts.
use Rattle.std.proofs.Common.{◌≡◌, ℕ, Bool, true, false, ◌&&◌, List, [], ◌∷◌, refl, sym, ◌∙◌, ap, ap₂, subst, Option}
use Rattle.std.proofs.Common.{Some, None, option_and_then, if◌then◌else◌}
use Rattle.std.specs.List.{list_all}
use Rattle.tla_values.specs.Sets.{elements}
use Rattle.tla_values.specs.declared.value.Value.{Value, out-Value}
use Rattle.tla_values.specs.declared.value.Value.TheVariants as value
use Rattle.tla_values.proofs.Members.{elements-set}
use Rattle.tla_meaning.specs.declared.forms.SetForm.{SetForm}
use Rattle.tla_meaning.specs.declared.forms.SetForm.TheVariants as set
use Rattle.tla_meaning.specs.declared.job.State.{State}
use Rattle.tla_meaning.specs.declared.place.Place.{Place}
use Rattle.tla_meaning.specs.declared.outcome.Fault.{Fault}
use Rattle.tla_meaning.specs.declared.outcome.Fault.TheVariants.{NoFault, IsWrong, IsBig}
use Rattle.tla_meaning.specs.declared.outcome.Outcome.{Outcome}
use Rattle.tla_meaning.specs.declared.outcome.Outcome.TheVariants.{Val, Wrong, Big}
use Rattle.tla_meaning.specs.Forms.{Formed, Made, Broken, all_set_forms, belongs, fault_or_form, form_fault}
use Rattle.tla_meaning.specs.Forms.{form_faults, is_set_form, made}
use Rattle.tla_meaning.specs.Meaning.{all_in, form_of_all, form_of_one, function_form, functions_from, in_form}
use Rattle.tla_meaning.specs.Meaning.{layer_of, plain}
use Rattle.tla_meaning.specs.Numbers.{Width}
use Rattle.tla_meaning.specs.Operators.{yes_no}
use Rattle.tla_meaning.specs.Outcomes.{fault_of, fault_or, join_faults}
use Rattle.tla_meaning.specs.Scopes.{Scope}
use Rattle.tla_meaning.specs.Shapes.{set_items}
use Rattle.tla_meaning.proofs.Joins.{both_unit}
use Rattle.tla_meaning.proofs.Narrow.{left_none, right_none}
use Rattle.snowcat_rows.specs.declared.types.Ty.{Ty}
use Rattle.kernel_trees.specs.declared.kernel.Ker.{Ker}
use Rattle.kernel_trees.specs.declared.kernel.KerOp.{KerOp}
use Rattle.kernel_trees.specs.declared.kernel.KerOp.TheVariants as ker
use Rattle.kernel_trees.specs.Trees.{ker_form, ker_val}
use Rattle.kernel_trees.proofs.Operators.{form_functions, form_ints, form_nats, form_plain, form_records}
use Rattle.kernel_trees.proofs.Operators.{form_sequences, form_subsets, form_texts, form_tuples, set_forms, tree, vals}
use Rattle.kernel_trees.proofs.Trees.{Each, by_nodes}

-- ---- a form or a fault

abbrev pub Honest : Formed → Type 0
Honest (Made f) = Unit {0}
Honest (Broken NoFault) = ⊥
Honest (Broken (IsWrong p)) = Unit {0}
Honest (Broken (IsBig p)) = Unit {0}

plain_honest : (o : Outcome) → Honest (plain o)
plain_honest (Val v) = tt
plain_honest (Wrong p) = tt
plain_honest (Big p) = tt

or_honest : (f : Fault) (x : Formed) → Honest x → Honest (fault_or_form f x)
or_honest NoFault x h = h
or_honest (IsWrong p) x h = tt
or_honest (IsBig p) x h = tt

if_honest : (p : Place) (b : Bool) (f : SetForm) → Honest (if b then Made f else Broken (IsWrong p))
if_honest p true f = tt
if_honest p false f = tt

one_honest : (p : Place) (make : SetForm → SetForm) (fs : List Formed) → Each Honest fs → Honest (form_of_one p make fs)
one_honest p make [] h = tt
one_honest p make (Made g ∷ []) h = if_honest p (is_set_form g) (make g)
one_honest p make (Broken g ∷ []) h = h.0
one_honest p make (f ∷ g ∷ fs) h = tt

from_honest : (p : Place) (o : Option (List Value)) (fs : List Formed) → Each Honest fs → Honest (functions_from p o fs)
from_honest p None fs h = tt
from_honest p (Some xs) fs h = one_honest p (set.Functions xs) fs h

function_honest : (p : Place) (os : List Outcome) (fs : List Formed) → Each Honest fs → Honest (function_form p os fs)
function_honest p [] fs h = tt
function_honest p (o ∷ os) [] h = tt
function_honest p (o ∷ os) (d ∷ fs) h =
    or_honest (join_faults (fault_of o) (form_faults fs)) (functions_from p (option_and_then set_items (layer_of o)) fs)
    (from_honest p (option_and_then set_items (layer_of o)) fs h.1)

all_honest : (p : Place) (make : List SetForm → SetForm) (fs : List Formed) → Honest (form_of_all p make fs)
all_honest p make fs =
    or_honest (form_faults fs) (if all_set_forms (made fs) then Made (make (made fs)) else Broken (IsWrong p))
    (if_honest p (all_set_forms (made fs)) (make (made fs)))

module _ (w : Width) (s t : State) where
  abbrev IsHonest : Ker → Type 0
  IsHonest k = (sc : Scope) → Honest (ker_form w k sc s t)

  each_honest : (ks : List Ker) (sc : Scope) → Each IsHonest ks → Each Honest (set_forms w s t ks sc)
  each_honest [] sc h = tt
  each_honest (k ∷ ks) sc h = (h.0 sc, each_honest ks sc h.1)

  at_honest : (p : Place) (a : Ty) (o : KerOp) (ks : List Ker) (xs : List ℕ) (sc : Scope) → Each IsHonest ks →
      Honest (ker_form w (tree p a o ks xs) sc s t)
  at_honest p a ker.IntForm ks xs sc h = subst Honest (sym (form_ints w s t p a ks xs sc)) tt
  at_honest p a ker.NatForm ks xs sc h = subst Honest (sym (form_nats w s t p a ks xs sc)) tt
  at_honest p a ker.TextForm ks xs sc h = subst Honest (sym (form_texts w s t p a ks xs sc)) tt
  at_honest p a ker.SeqForm ks xs sc h =
      subst Honest (sym (form_sequences w s t p a ks xs sc))
      (one_honest p set.Sequences (set_forms w s t ks sc) (each_honest ks sc h))
  at_honest p a ker.Subsets ks xs sc h =
      subst Honest (sym (form_subsets w s t p a ks xs sc))
      (one_honest p set.Subsets (set_forms w s t ks sc) (each_honest ks sc h))
  at_honest p a ker.Functions ks xs sc h =
      subst Honest (sym (form_functions w s t p a ks xs sc))
      (function_honest p (vals w s t ks sc) (set_forms w s t ks sc) (each_honest ks sc h))
  at_honest p a (ker.RecForm names) ks xs sc h =
      subst Honest (sym (form_records w s t p a names ks xs sc))
      (all_honest p (set.Records names) (set_forms w s t ks sc))
  at_honest p a ker.TupForm ks xs sc h =
      subst Honest (sym (form_tuples w s t p a ks xs sc)) (all_honest p set.Tuples (set_forms w s t ks sc))
  at_honest p a o ks xs sc h = subst Honest (sym (form_plain w s t p a o ks xs sc refl))
      (plain_honest (ker_val w (tree p a o ks xs) sc s t))

  pub form-honest : (k : Ker) (sc : Scope) → Honest (ker_form w k sc s t)
  form-honest = by_nodes IsHonest (λ x h sc. at_honest x.place x.ty x.op x.args x.binds sc h)

  pub forms-honest : (ks : List Ker) (sc : Scope) → Each Honest (set_forms w s t ks sc)
  forms-honest [] sc = tt
  forms-honest (k ∷ ks) sc = (form-honest k sc, forms-honest ks sc)

-- ---- the fault, or else the form

pub record Meets (f : Fault) (v : SetForm) (o : Formed) : Type 0 where
  pub fault : form_fault o ≡ f
  pub form : (g : SetForm) → o ≡ Made g → v ≡ g

broken_made : {X : Type 0} (f : Fault) (g : SetForm) → Broken f ≡ Made g → X
broken_made f g e = absurd (cc)

made_one : (f g : SetForm) → Made f ≡ Made g → f ≡ g
made_one f g e = cc

pub made_meets : (v : SetForm) → Meets NoFault v (Made v)
made_meets v = record { fault = refl; form = λ g e. made_one v g e }

or_meets : (f : Fault) (v : SetForm) (x : Formed) → (f ≡ NoFault → Meets NoFault v x) → Meets f v (fault_or_form f x)
or_meets NoFault v x h = h refl
or_meets (IsWrong p) v x h = record { fault = refl; form = λ g e. broken_made (IsWrong p) g e }
or_meets (IsBig p) v x h = record { fault = refl; form = λ g e. broken_made (IsBig p) g e }

if_meets : (p : Place) (b : Bool) (v : SetForm) → b ≡ true → Meets NoFault v (if b then Made v else Broken (IsWrong p))
if_meets p true v e = made_meets v
if_meets p false v e = absurd (cc)

-- what a form over cells says of the form of a part
pub record Part (v : SetForm) (o : Formed) : Type 0 where
  pub set : is_set_form v ≡ true
  pub honest : Honest o
  pub form : (g : SetForm) → o ≡ Made g → v ≡ g

pub one_meets : (p : Place) (make : SetForm → SetForm) (v : SetForm) (o : Formed) → Part v o →
    Meets (join_faults (form_fault o) NoFault) (make v) (form_of_one p make (o ∷ []))
one_meets p make v (Made g) h =
    let e : v ≡ g = h.form g refl in
    subst (λ u. Meets NoFault (make u) (if is_set_form g then Made (make g) else Broken (IsWrong p))) (sym e)
    (if_meets p (is_set_form g) (make g) (sym (ap is_set_form e) ∙ h.set))
one_meets p make v (Broken f) h = record { fault = sym (both_unit f); form = λ g e. broken_made f g e }

-- ---- functions

from_meets : (p : Place) (xs : List Value) (o : Option (List Value)) (v : SetForm) (d : Formed) → o ≡ Some xs →
    Part v d →
    form_faults (d ∷ []) ≡ NoFault → Meets NoFault (set.Functions xs v) (functions_from p o (d ∷ []))
from_meets p xs o v d e h n =
    subst (λ q. Meets NoFault (set.Functions xs v) (functions_from p q (d ∷ []))) (sym e)
    (subst (λ f. Meets f (set.Functions xs v) (form_of_one p (set.Functions xs) (d ∷ []))) n
    (one_meets p (set.Functions xs) v d h))

not_wrong : {X : Type 0} (p : Place) → IsWrong p ≡ NoFault → X
not_wrong p e = absurd (cc)

not_big : {X : Type 0} (p : Place) → IsBig p ≡ NoFault → X
not_big p e = absurd (cc)

-- a cell of a set says this of the outcome of a set
pub record SetPart (u : Value) (o : Outcome) : Type 0 where
  pub items : List Value
  pub set : u ≡ value.Set items
  pub value : (v : Value) → o ≡ Val v → u ≡ v

items_there : (u : Value) (o : Outcome) → SetPart u o → fault_of o ≡ NoFault → option_and_then set_items (layer_of o) ≡
    Some (elements u)
items_there u (Val v) h n =
    ap (λ x. set_items (out-Value x)) (sym (h.value v refl) ∙ h.set)
    ∙ ap set_items (value.outs-Set h.items)
    ∙ ap Some (sym (ap elements h.set ∙ elements-set h.items))
items_there u (Wrong p) h n = not_wrong p n
items_there u (Big p) h n = not_big p n

pub function_meets : (p : Place) (u : Value) (o : Outcome) (os : List Outcome) (c d : Formed) (v : SetForm) →
    SetPart u o → Part v d →
    Meets (join_faults (join_faults (fault_of o) NoFault) (form_faults (d ∷ []))) (set.Functions (elements u) v)
    (function_form p (o ∷ os) (c ∷ d ∷ []))
function_meets p u o os c d v h k =
    subst (λ f. Meets (join_faults f (form_faults (d ∷ []))) (set.Functions (elements u) v)
    (function_form p (o ∷ os) (c ∷ d ∷ []))) (sym (both_unit (fault_of o)))
    (or_meets (join_faults (fault_of o) (form_faults (d ∷ []))) (set.Functions (elements u) v)
    (functions_from p (option_and_then set_items (layer_of o)) (d ∷ []))
    (λ e. from_meets p (elements u) (option_and_then set_items (layer_of o)) v d
    (items_there u o h (left_none (fault_of o) (form_faults (d ∷ [])) e)) k
    (right_none (fault_of o) (form_faults (d ∷ [])) e)))

-- ---- records and tuples

abbrev pub Parts : List SetForm → List Formed → Type 0
Parts [] [] = Unit {0}
Parts [] (o ∷ os) = ⊥
Parts (v ∷ vs) [] = ⊥
Parts (v ∷ vs) (o ∷ os) = Part v o × Parts vs os

all_made : (vs : List SetForm) (os : List Formed) → Parts vs os → form_faults os ≡ NoFault → made os ≡ vs
all_made [] [] h n = refl
all_made [] (o ∷ os) h n = absurd h
all_made (v ∷ vs) [] h n = absurd h
all_made (v ∷ vs) (Made g ∷ os) h n = ap₂ (λ f fs. f ∷ fs) (sym (h.0.form g refl)) (all_made vs os h.1 n)
all_made (v ∷ vs) (Broken NoFault ∷ os) h n = absurd h.0.honest
all_made (v ∷ vs) (Broken (IsWrong p) ∷ os) h n = not_wrong p (left_none (IsWrong p) (form_faults os) n)
all_made (v ∷ vs) (Broken (IsBig p) ∷ os) h n = not_big p (left_none (IsBig p) (form_faults os) n)

all_sets : (vs : List SetForm) (os : List Formed) → Parts vs os → all_set_forms vs ≡ true
all_sets [] [] h = refl
all_sets [] (o ∷ os) h = absurd h
all_sets (v ∷ vs) [] h = absurd h
all_sets (v ∷ vs) (o ∷ os) h = ap₂ (λ x y. x && y) h.0.set (all_sets vs os h.1)

pub all_meets : (p : Place) (make : List SetForm → SetForm) (vs : List SetForm) (os : List Formed) → Parts vs os →
    Meets (form_faults os) (make vs) (form_of_all p make os)
all_meets p make vs os h =
    or_meets (form_faults os) (make vs) (if all_set_forms (made os) then Made (make (made os)) else Broken (IsWrong p))
    (λ n. let e = all_made vs os h n in
    subst (λ us. Meets NoFault (make vs) (if all_set_forms us then Made (make us) else Broken (IsWrong p))) (sym e)
    (if_meets p (all_set_forms vs) (make vs) (all_sets vs os h)))

-- ---- a value and a form

pub both_meet : (p : Place) (test : Value → SetForm → Outcome) (v : Value) (y : SetForm) (o : Outcome)
    (os : List Outcome) (d f : Formed) → Part y f →
    ((u : Value) → o ≡ Val u → v ≡ u) →
    in_form p test (o ∷ os) (d ∷ f ∷ []) ≡ fault_or (join_faults (fault_of o) (form_fault f)) (test v y)
both_meet p test v y (Val u) os d (Made g) h k =
    let e : y ≡ g = h.form g refl in
    let q : v ≡ u = k u refl in
    ap (λ b. if b then test u g else Wrong p) (sym (ap is_set_form e) ∙ h.set) ∙ sym (ap₂ test q e)
both_meet p test v y (Val u) os d (Broken NoFault) h k = absurd h.honest
both_meet p test v y (Val u) os d (Broken (IsWrong q)) h k = refl
both_meet p test v y (Val u) os d (Broken (IsBig q)) h k = refl
both_meet p test v y (Wrong q) os d (Made g) h k = refl
both_meet p test v y (Wrong q) os d (Broken NoFault) h k = absurd h.honest
both_meet p test v y (Wrong q) os d (Broken (IsWrong r)) h k = refl
both_meet p test v y (Wrong q) os d (Broken (IsBig r)) h k = refl
both_meet p test v y (Big q) os d (Made g) h k = refl
both_meet p test v y (Big q) os d (Broken NoFault) h k = absurd h.honest
both_meet p test v y (Big q) os d (Broken (IsWrong r)) h k = refl
both_meet p test v y (Big q) os d (Broken (IsBig r)) h k = refl

pub all_in_set : (p : Place) (v : Value) (f : SetForm) (items : List Value) → v ≡ value.Set items →
    all_in p v f ≡ yes_no (list_all (belongs f) (elements v))
all_in_set p v f items e =
    ap (λ u. all_in p u f) e
    ∙ ap (λ (o : Option (List Value)). elim o [ None ↦ Wrong p | Some xs ↦ yes_no (list_all (belongs f) xs) ])
    (ap set_items (value.outs-Set items))
    ∙ ap (λ xs. yes_no (list_all (belongs f) xs)) (sym (ap elements e ∙ elements-set items))
