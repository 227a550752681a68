-- Set forms, EXCEPT, folds and binders, under a width and without one.
use Rattle.std.proofs.Common.{◌≡◌, ℕ, Bool, true, false, List, [], ◌∷◌, Option, Some, None, refl, ap, subst, if◌then◌else◌}
use Rattle.std.specs.Prelude.{option_and_then}
use Rattle.tla_values.specs.Order.{Layer}
use Rattle.tla_values.specs.declared.value.Value.{Value, out-Value}
use Rattle.tla_values.specs.declared.value.Value.TheOpen as layer
use Rattle.tla_meaning.specs.declared.place.Place.{Place}
use Rattle.tla_meaning.specs.declared.outcome.Fault.{Fault}
use Rattle.tla_meaning.specs.declared.outcome.Fault.TheVariants.{NoFault, IsWrong, IsBig}
use Rattle.tla_meaning.specs.declared.outcome.Outcome.{Outcome}
use Rattle.tla_meaning.specs.declared.outcome.Outcome.TheVariants.{Val, Wrong, Big}
use Rattle.tla_meaning.specs.Outcomes.{join_faults, least, fault_of, with_value}
use Rattle.tla_meaning.specs.Shapes.{set_items, items_of, truth}
use Rattle.tla_meaning.specs.Operators.{on_items}
use Rattle.tla_meaning.specs.declared.forms.SetForm.{SetForm}
use Rattle.tla_meaning.specs.declared.forms.SetForm.TheVariants as form
use Rattle.tla_meaning.specs.Forms.{Formed, Made, Broken, form_fault, form_faults, made, is_set_form, all_set_forms, fault_or_form}
use Rattle.tla_meaning.specs.Meaning.{choose, by_truth, conjoined, disjoined, implied, if_chosen, case_chosen, Update, Reached, At, Outside, NoFunction, at_path, set_path, updated, first_updated, folded, fold_over, form_of_all, form_of_one, layer_of, functions_from, function_form, plain, in_form}
use Rattle.tla_meaning.specs.Numbers.{Width}
use Rattle.tla_meaning.specs.Widths.{Narrow, SameValue, BothWrong, TooBig}
use Rattle.tla_meaning.proofs.Narrow.{NarrowFault, NoFaults, WrongFaults, BigFault, wrong_left, both_narrow, fault_narrow, left_none, big_not_none, wrong_not_none, AllNarrow, none_narrow, more_narrow, with_narrow}
use Rattle.tla_meaning.proofs.NarrowTable.{on_items_narrow}

-- ---- truth values

by_truth_narrow : {w : Width} → (p : Place) (v : Layer Value) {a b c d : Outcome} → Narrow w a c → Narrow w b d → Narrow w (by_truth p v a b) (by_truth p v c d)
by_truth_narrow p (layer.Bool true) r s = r
by_truth_narrow p (layer.Bool false) r s = s
by_truth_narrow p v r s = BothWrong p p

pub choose_narrow : {w : Width} → (p : Place) {o q a b c d : Outcome} → Narrow w o q → Narrow w a c → Narrow w b d → Narrow w (choose p o a b) (choose p q c d)
choose_narrow p {a = a} {b = b} {c = c} {d = d} x r s =
    with_narrow (λ v. by_truth p (out-Value v) a b) (λ v. by_truth p (out-Value v) c d) x (λ v. by_truth_narrow p (out-Value v) r s)

pub conjoined_narrow : {w : Width} → (p : Place) {os qs : List Outcome} → AllNarrow w os qs → Narrow w (conjoined p os) (conjoined p qs)
conjoined_narrow p none_narrow = SameValue (truth true)
conjoined_narrow p (more_narrow r rs) = choose_narrow p r (conjoined_narrow p rs) (SameValue (truth false))

pub disjoined_narrow : {w : Width} → (p : Place) {os qs : List Outcome} → AllNarrow w os qs → Narrow w (disjoined p os) (disjoined p qs)
disjoined_narrow p none_narrow = SameValue (truth false)
disjoined_narrow p (more_narrow r rs) = choose_narrow p r (SameValue (truth true)) (disjoined_narrow p rs)

pub implied_narrow : {w : Width} → (p : Place) {os qs : List Outcome} → AllNarrow w os qs → Narrow w (implied p os) (implied p qs)
implied_narrow p (more_narrow r (more_narrow s none_narrow)) =
    choose_narrow p r (choose_narrow p s (SameValue (truth true)) (SameValue (truth false))) (SameValue (truth true))
implied_narrow p rs = BothWrong p p

pub if_chosen_narrow : {w : Width} → (p : Place) {os qs : List Outcome} → AllNarrow w os qs → Narrow w (if_chosen p os) (if_chosen p qs)
if_chosen_narrow p (more_narrow r (more_narrow s (more_narrow t none_narrow))) = choose_narrow p r s t
if_chosen_narrow p rs = BothWrong p p

pub case_chosen_narrow : {w : Width} → (p : Place) {os qs : List Outcome} → AllNarrow w os qs → Narrow w (case_chosen p os) (case_chosen p qs)
case_chosen_narrow p none_narrow = BothWrong p p
case_chosen_narrow p (more_narrow r none_narrow) = r
case_chosen_narrow p (more_narrow r (more_narrow s rs)) = choose_narrow p r s (case_chosen_narrow p rs)

-- ---- EXCEPT

pub data AllUpdates (w : Width) : List Update → List Update → Type 0 where
  no_updates : AllUpdates w [] []
  more_updates : (is : List Value) (f g : Value → Outcome) {us vs : List Update} → ((v : Value) → Narrow w (f v) (g v)) → AllUpdates w us vs →
      AllUpdates w ((is, f) ∷ us) ((is, g) ∷ vs)

pub updated_narrow : {w : Width} → (p : Place) {us vs : List Update} → AllUpdates w us vs → (f : Value) → Narrow w (updated p us f) (updated p vs f)
updated_narrow p no_updates f = SameValue f
updated_narrow {w = w} p (more_updates is c d {us = us} {vs = vs} r rs) f = by_place (updated_narrow p rs) (at_path f is)
  where
    by_place : ((g : Value) → Narrow w (updated p us g) (updated p vs g)) → (o : Reached) → Narrow w
        (elim o [ At old ↦ with_value (c old) (λ new. updated p us (set_path is new f)) | Outside ↦ updated p us f | NoFunction ↦ Wrong p ])
        (elim o [ At old ↦ with_value (d old) (λ new. updated p vs (set_path is new f)) | Outside ↦ updated p vs f | NoFunction ↦ Wrong p ])
    by_place rest (At old) =
        with_narrow (λ new. updated p us (set_path is new f)) (λ new. updated p vs (set_path is new f)) (r old)
        (λ new. rest (set_path is new f))
    by_place rest Outside = rest f
    by_place rest NoFunction = BothWrong p p

pub first_updated_narrow : {w : Width} → (p : Place) {us vs : List Update} → AllUpdates w us vs → (xs : List Value) → Narrow w (first_updated p us xs) (first_updated p vs xs)
first_updated_narrow p rs [] = BothWrong p p
first_updated_narrow p rs (f ∷ xs) = updated_narrow p rs f

-- ---- folds over a sequence

folded_narrow : {w : Width} → (f g : Value → Value → Outcome) → ((a b : Value) → Narrow w (f a b) (g a b)) → (xs : List Value) (v : Value) →
    Narrow w (folded f xs v) (folded g xs v)
folded_narrow f g r [] v = SameValue v
folded_narrow f g r (x ∷ xs) v = with_narrow (folded f xs) (folded g xs) (r v x) (folded_narrow f g r xs)

pub fold_over_narrow : {w : Width} → (p : Place) (f g : Value → Value → Outcome) → ((a b : Value) → Narrow w (f a b) (g a b)) → (vs : List Value) →
    Narrow w (fold_over p f vs) (fold_over p g vs)
fold_over_narrow {w = w} p f g r (v ∷ q ∷ []) = by_layer (out-Value q)
  where
    by_layer : (l : Layer Value) → Narrow w
        (elim l as (λ _. Outcome) [ layer.Fun ps ↦ on_items p (λ xs. folded f xs v) (items_of ps) | _ ↦ Wrong p ])
        (elim l as (λ _. Outcome) [ layer.Fun ps ↦ on_items p (λ xs. folded g xs v) (items_of ps) | _ ↦ Wrong p ])
    by_layer (layer.Fun ps) = on_items_narrow p (λ xs. folded f xs v) (λ xs. folded g xs v) (λ xs. folded_narrow f g r xs v) (items_of ps)
    by_layer l = BothWrong p p
fold_over_narrow p f g r vs = BothWrong p p

-- ---- set forms

pub data NarrowForm : Width → Formed → Formed → Type 0 where
  SameForm : {w : Width} → (f : SetForm) → NarrowForm w (Made f) (Made f)
  NoForms : {w : Width} → NarrowForm w (Broken NoFault) (Broken NoFault)
  WrongForms : {w : Width} → (p q : Place) → NarrowForm w (Broken (IsWrong p)) (Broken (IsWrong q))
  BigForm : {w : ℕ} → (p : Place) (f : Formed) → NarrowForm (Some w) (Broken (IsBig p)) f

pub data AllForms (w : Width) : List Formed → List Formed → Type 0 where
  no_formed : AllForms w [] []
  more_formed : {f g : Formed} {fs gs : List Formed} → NarrowForm w f g → AllForms w fs gs → AllForms w (f ∷ fs) (g ∷ gs)

-- a form by a test, else Wrong
chosen_same : {w : Width} → (p : Place) (f : SetForm) (b : Bool) →
    NarrowForm w (if b then Made f else Broken (IsWrong p)) (if b then Made f else Broken (IsWrong p))
chosen_same p f true = SameForm f
chosen_same p f false = WrongForms p p

form_fault_narrow : {w : Width} → {f g : Formed} → NarrowForm w f g → NarrowFault w (form_fault f) (form_fault g)
form_fault_narrow (SameForm f) = NoFaults
form_fault_narrow NoForms = NoFaults
form_fault_narrow (WrongForms p q) = WrongFaults (IsWrong p) (IsWrong q) tt tt
form_fault_narrow (BigForm p f) = BigFault p (form_fault f)

form_faults_narrow : {w : Width} → {fs gs : List Formed} → AllForms w fs gs → NarrowFault w (form_faults fs) (form_faults gs)
form_faults_narrow no_formed = NoFaults
form_faults_narrow (more_formed r rs) = both_narrow (form_fault_narrow r) (form_faults_narrow rs)

made_same : {w : Width} → {fs gs : List Formed} → AllForms w fs gs → form_faults fs ≡ NoFault → made fs ≡ made gs
made_same no_formed e = refl
made_same (more_formed (SameForm f) rs) e = ap (λ (fs : List SetForm). f ∷ fs) (made_same rs e)
made_same (more_formed NoForms rs) e = made_same rs e
made_same (more_formed {fs = fs} (WrongForms p q) rs) e =
    absurd (wrong_not_none (join_faults (IsWrong p) (form_faults fs)) (wrong_left (IsWrong p) (form_faults fs) tt) e)
made_same (more_formed {fs = fs} (BigForm p f) rs) e = absurd (big_not_none p (left_none (IsBig p) (form_faults fs) e))

form_unless_narrow : {w : Width} → {f g : Fault} {a b : Formed} → NarrowFault w f g → (f ≡ NoFault → NarrowForm w a b) → NarrowForm w (fault_or_form f a) (fault_or_form g b)
form_unless_narrow NoFaults r = r refl
form_unless_narrow (WrongFaults NoFault g x y) r = absurd x
form_unless_narrow (WrongFaults (IsWrong p) NoFault x y) r = absurd y
form_unless_narrow (WrongFaults (IsWrong p) (IsWrong q) x y) r = WrongForms p q
form_unless_narrow (WrongFaults (IsWrong p) (IsBig q) x y) r = absurd y
form_unless_narrow (WrongFaults (IsBig p) g x y) r = absurd x
form_unless_narrow {b = b} (BigFault p g) r = BigForm p (fault_or_form g b)

pub form_of_all_narrow : {w : Width} → (p : Place) (make : List SetForm → SetForm) {fs gs : List Formed} → AllForms w fs gs →
    NarrowForm w (form_of_all p make fs) (form_of_all p make gs)
form_of_all_narrow {w = w} p make {fs = fs} rs =
    let build : List SetForm → Formed = λ x. if all_set_forms x then Made (make x) else Broken (IsWrong p) in
    form_unless_narrow (form_faults_narrow rs) (λ e. subst (λ (x : List SetForm). NarrowForm w (build (made fs)) (build x)) (made_same rs e) (chosen_same p (make (made fs)) (all_set_forms (made fs))))

pub form_of_one_narrow : {w : Width} → (p : Place) (make : SetForm → SetForm) {fs gs : List Formed} → AllForms w fs gs →
    NarrowForm w (form_of_one p make fs) (form_of_one p make gs)
form_of_one_narrow p make (more_formed (SameForm f) no_formed) = chosen_same p (make f) (is_set_form f)
form_of_one_narrow p make (more_formed NoForms no_formed) = NoForms
form_of_one_narrow p make (more_formed (WrongForms a b) no_formed) = WrongForms a b
form_of_one_narrow p make (more_formed (BigForm a f) no_formed) = BigForm a (form_of_one p make (f ∷ []))
form_of_one_narrow p make rs = WrongForms p p

functions_from_narrow : {w : Width} → (p : Place) (o : Option (List Value)) {fs gs : List Formed} → AllForms w fs gs →
    NarrowForm w (functions_from p o fs) (functions_from p o gs)
functions_from_narrow p None rs = WrongForms p p
functions_from_narrow p (Some xs) rs = form_of_one_narrow p (form.Functions xs) rs

-- the items of a domain, where it has no fault
items_same : {w : Width} → {o q : Outcome} → Narrow w o q → fault_of o ≡ NoFault → layer_of o ≡ layer_of q
items_same (SameValue v) e = refl
items_same (BothWrong p q) e = refl
items_same (TooBig p o) e = absurd (big_not_none p e)

pub function_form_narrow : {w : Width} → (p : Place) {os qs : List Outcome} {fs gs : List Formed} → AllNarrow w os qs → AllForms w fs gs →
    NarrowForm w (function_form p os fs) (function_form p qs gs)
function_form_narrow {w = w} p (more_narrow {o = o} {q = q} r rs) (more_formed {fs = fs} {gs = gs} s ss) =
    form_unless_narrow (both_narrow (fault_narrow r) (form_faults_narrow ss)) (λ e.
    subst (λ x. NarrowForm w (functions_from p (option_and_then set_items (layer_of o)) fs) (functions_from p (option_and_then set_items x) gs))
    (items_same r (left_none (fault_of o) (form_faults fs) e))
    (functions_from_narrow p (option_and_then set_items (layer_of o)) ss))
function_form_narrow p rs ss = WrongForms p p

pub plain_narrow : {w : Width} → {o q : Outcome} → Narrow w o q → NarrowForm w (plain o) (plain q)
plain_narrow (SameValue v) = SameForm (form.Plain v)
plain_narrow (BothWrong p q) = WrongForms p q
plain_narrow (TooBig p o) = BigForm p (plain o)

-- the fault of a membership's sides
abbrev told : Place → Fault → Outcome
told p f = elim f [ NoFault ↦ Wrong p | IsWrong q ↦ Wrong q | IsBig q ↦ Big q ]

told_narrow : {w : Width} → (p : Place) {f g : Fault} → NarrowFault w f g → Narrow w (told p f) (told p g)
told_narrow p NoFaults = BothWrong p p
told_narrow p (WrongFaults NoFault g x y) = absurd x
told_narrow p (WrongFaults (IsWrong a) NoFault x y) = absurd y
told_narrow p (WrongFaults (IsWrong a) (IsWrong b) x y) = BothWrong a b
told_narrow p (WrongFaults (IsWrong a) (IsBig b) x y) = absurd y
told_narrow p (WrongFaults (IsBig a) g x y) = absurd x
told_narrow p (BigFault a g) = TooBig a (told p g)

-- a test that is never Big
abbrev pub Tests : Width → (Value → SetForm → Outcome) → Type 0
Tests w test = (v : Value) (f : SetForm) → Narrow w (test v f) (test v f)

tested_same : {w : Width} → (p : Place) (o : Outcome) → Narrow w o o → (b : Bool) → Narrow w (if b then o else Wrong p) (if b then o else Wrong p)
tested_same p o r true = r
tested_same p o r false = BothWrong p p

in_two : {w : Width} → (p : Place) (test : Value → SetForm → Outcome) → Tests w test → {o q : Outcome} (os qs : List Outcome) (d e : Formed) {f g : Formed} → Narrow w o q → NarrowForm w f g →
    Narrow w (in_form p test (o ∷ os) (d ∷ f ∷ [])) (in_form p test (q ∷ qs) (e ∷ g ∷ []))
in_two p test h os qs d e (SameValue v) (SameForm f) = tested_same p (test v f) (h v f) (is_set_form f)
in_two p test h os qs d e (SameValue v) NoForms = BothWrong p p
in_two p test h os qs d e (SameValue v) (WrongForms a b) = BothWrong a b
in_two p test h os qs d e (SameValue v) (BigForm a f) = TooBig a (in_form p test (Val v ∷ qs) (e ∷ f ∷ []))
in_two p test h os qs d e (BothWrong a b) r = told_narrow p (both_narrow (WrongFaults (IsWrong a) (IsWrong b) tt tt) (form_fault_narrow r))
in_two p test h os qs d e (TooBig a o) (SameForm f) = TooBig a (in_form p test (o ∷ qs) (e ∷ Made f ∷ []))
in_two p test h os qs d e (TooBig a o) NoForms = TooBig a (in_form p test (o ∷ qs) (e ∷ Broken NoFault ∷ []))
in_two p test h os qs d e (TooBig a (Val v)) (WrongForms b c) = BothWrong b c
in_two p test h os qs d e (TooBig a (Wrong q)) (WrongForms b c) = BothWrong b (least q c)
in_two p test h os qs d e (TooBig a (Big q)) (WrongForms b c) = BothWrong b c
in_two p test h os qs d e (TooBig a o) (BigForm b f) = TooBig (least a b) (in_form p test (o ∷ qs) (e ∷ f ∷ []))

pub in_form_narrow : {w : Width} → (p : Place) (test : Value → SetForm → Outcome) → Tests w test → {os qs : List Outcome} {fs gs : List Formed} → AllNarrow w os qs → AllForms w fs gs →
    Narrow w (in_form p test os fs) (in_form p test qs gs)
in_form_narrow p test h (more_narrow {os = os} {qs = qs} r rs) (more_formed {f = d} {g = e} s (more_formed t no_formed)) = in_two p test h os qs d e r t
in_form_narrow p test h (more_narrow (SameValue v) rs) (more_formed s (more_formed (BigForm a (Made f)) ss)) = BothWrong p p
in_form_narrow p test h (more_narrow (SameValue v) rs) (more_formed s (more_formed (BigForm a (Broken f)) ss)) = BothWrong p p
in_form_narrow p test h (more_narrow (SameValue v) rs) ss = BothWrong p p
in_form_narrow p test h (more_narrow (BothWrong a b) rs) ss = BothWrong p p
in_form_narrow p test h (more_narrow (TooBig a (Val v)) rs) (more_formed s (more_formed (BigForm b (Made f)) ss)) = BothWrong p p
in_form_narrow p test h (more_narrow (TooBig a (Val v)) rs) (more_formed s (more_formed (BigForm b (Broken f)) ss)) = BothWrong p p
in_form_narrow p test h (more_narrow (TooBig a (Val v)) rs) ss = BothWrong p p
in_form_narrow p test h (more_narrow (TooBig a (Wrong b)) rs) ss = BothWrong p p
in_form_narrow p test h (more_narrow (TooBig a (Big b)) rs) ss = BothWrong p p
in_form_narrow p test h none_narrow ss = BothWrong p p
