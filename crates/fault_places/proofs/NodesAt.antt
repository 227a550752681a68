-- A node gives faults at its own place and at those of its children.
use Rattle.std.proofs.Common.{ℕ, zero, suc, Bool, true, false, not, List, [], ◌∷◌, ◌++◌, take, drop, map, Option, Some, None, if◌then◌else◌}
use Rattle.std.specs.Prelude.{option_and_then, slice_get}
use Rattle.std.specs.List.{AllByRecursion, list_any, list_all}
use Rattle.tla_values.specs.Order.{Layer}
use Rattle.tla_values.specs.declared.value.Value.{Value, out-Value}
use Rattle.tla_values.specs.declared.value.Value.TheOpen as layer
use Rattle.tla_meaning.specs.declared.actions.Assignable.{Assignable}
use Rattle.tla_meaning.specs.declared.forms.SetForm.{SetForm}
use Rattle.tla_meaning.specs.declared.forms.SetForm.TheVariants as form
use Rattle.tla_meaning.specs.declared.op.Op.{Op}
use Rattle.tla_meaning.specs.declared.op.Op.TheVariants as op
use Rattle.tla_meaning.specs.declared.place.Place.{Place}
use Rattle.tla_meaning.specs.declared.job.State.{State}
use Rattle.tla_meaning.specs.declared.actions.Effect.{Effect}
use Rattle.tla_meaning.specs.declared.outcome.Fault.{Fault}
use Rattle.tla_meaning.specs.declared.outcome.Fault.TheVariants.{NoFault, IsWrong, IsBig}
use Rattle.tla_meaning.specs.declared.outcome.Outcome.{Outcome}
use Rattle.tla_meaning.specs.declared.outcome.Outcome.TheVariants.{Val, Wrong, Big}
use Rattle.tla_meaning.specs.Outcomes.{join_faults, fault_of, strict, with_value}
use Rattle.tla_meaning.specs.Numbers.{Width}
use Rattle.tla_meaning.specs.Shapes.{choices, items_of, set_items, the_set}
use Rattle.tla_meaning.specs.Operators.{table, yes_no, on_all_sets, on_items}
use Rattle.tla_meaning.specs.Forms.{Formed, Made, Broken, form_fault, form_faults, made, is_set_form, all_set_forms, fault_or_form, belongs}
use Rattle.tla_meaning.specs.Scopes.{Denotation, absent, value_found}
use Rattle.tla_meaning.specs.Meaning.{View, outcomes, child, forms, truths, on_all_truths, kept, bound_table, over_members, Update, Reached, At, Outside, NoFunction, at_path, set_path, updated, all_indexes, updates, first_updated, except, folded, fold_over, form_of_all, form_of_one, layer_of, functions_from, function_form, plain, in_form, all_in, changed, value_of, form_of, kept_value, unchanged_of}
use Rattle.tla_meaning.specs.Actions.{any_mentions, effects, effect_of, mentions_of, under_prime, act_of, meant, denotation_of, if_effect, case_effect, effects_or}
use Rattle.fault_places.proofs.FaultsAt.{FaultAt, OutcomeAt, OutcomesAt, EffectAt, EffectsAt, either_at, join_at, fault_at, strict_at, with_at, each_at, choose_at, conjoined_at, disjoined_at, implied_at, if_chosen_at, case_chosen_at, effect_at, effects_and_at, effects_or_at, case_effect_at, if_effect_at, exists_effect_at}
use Rattle.fault_places.proofs.TableAt.{number_at, on_items_at, on_all_sets_at, table_at}

abbrev pub FormAt : (Place → Type 0) → Formed → Type 0
FormAt P f = FaultAt P (form_fault f)

abbrev pub FormsAt : (Place → Type 0) → List Formed → Type 0
FormsAt P fs = AllByRecursion (FormAt P) fs

-- whatever is asked of it, the faults are at such places
pub record DenotationAt (P : Place → Type 0) (a : Denotation) : Type 0 where
  pub value : (s t : State) → OutcomeAt P (a.value s t)
  pub form : (s t : State) → FormAt P (a.form s t)
  pub act : (m : Assignable) (s t : State) → EffectAt P (a.act m s t)
  pub unchanged : (s t : State) → OutcomeAt P (a.unchanged s t)

abbrev pub DenotationsAt : (Place → Type 0) → List Denotation → Type 0
DenotationsAt P as' = AllByRecursion (DenotationAt P) as'

abbrev pub WholeAt : (Place → Type 0) → Option Denotation → Type 0
WholeAt P None = Unit {0}
WholeAt P (Some a) = DenotationAt P a

pub record ViewAt (P : Place → Type 0) (v : View) : Type 0 where
  pub here : DenotationsAt P v.here
  pub under : (vs : List Value) → DenotationsAt P (v.under vs)
  pub whole : WholeAt P v.whole

abbrev UpdateAt : (Place → Type 0) → Update → Type 0
UpdateAt P u = (v : Value) → OutcomeAt P (u.1 v)

-- ---- lists

taken : {X : Type 0} (P : X → Type 0) (n : ℕ) (xs : List X) → AllByRecursion P xs → AllByRecursion P (take n xs)
taken P zero xs h = tt
taken P (suc n) [] h = tt
taken P (suc n) (x ∷ xs) h = (h.0, taken P n xs h.1)

dropped : {X : Type 0} (P : X → Type 0) (n : ℕ) (xs : List X) → AllByRecursion P xs → AllByRecursion P (drop n xs)
dropped P zero xs h = h
dropped P (suc n) [] h = tt
dropped P (suc n) (x ∷ xs) h = dropped P n xs h.1

pub joined_lists : {X : Type 0} (P : X → Type 0) (xs ys : List X) → AllByRecursion P xs → AllByRecursion P ys →
    AllByRecursion P (xs ++ ys)
joined_lists P [] ys h k = k
joined_lists P (x ∷ xs) ys h k = (h.0, joined_lists P xs ys h.1 k)

-- of each, what a function gives of it
mapped : {X Y : Type 0} (P : X → Type 0) (Q : Y → Type 0) (f : X → Y) → ((x : X) → P x → Q (f x)) → (xs : List X) →
    AllByRecursion P xs →
    AllByRecursion Q (map f xs)
mapped P Q f r [] h = tt
mapped P Q f r (x ∷ xs) h = (r x h.0, mapped P Q f r xs h.1)

-- ---- what is given is only handed on

module _ (P : Place → Type 0) where
  outcomes_at : (as' : List Denotation) → DenotationsAt P as' → (s t : State) → OutcomesAt P (outcomes as' s t)
  outcomes_at as' h s t = mapped (DenotationAt P) (OutcomeAt P) (λ a. a.value s t) (λ a r. r.value s t) as' h

  forms_at : (as' : List Denotation) → DenotationsAt P as' → (s t : State) → FormsAt P (forms as' s t)
  forms_at as' h s t = mapped (DenotationAt P) (FormAt P) (λ a. a.form s t) (λ a r. r.form s t) as' h

  effects_at : (m : Assignable) (as' : List Denotation) → DenotationsAt P as' → (s t : State) →
      EffectsAt P (effects m as' s t)
  effects_at m as' h s t = mapped (DenotationAt P) (EffectAt P) (λ a. a.act m s t) (λ a r. r.act m s t) as' h

  indexes_at : (ns : List ℕ) (ks : List Denotation) → DenotationsAt P ks → DenotationsAt P (all_indexes ns ks)
  indexes_at [] ks h = tt
  indexes_at (n ∷ ns) ks h =
      joined_lists (DenotationAt P) (take n ks) (all_indexes ns (drop (suc n) ks)) (taken (DenotationAt P) n ks h)
      (indexes_at ns (drop (suc n) ks) (dropped (DenotationAt P) (suc n) ks h))

  folded_at : (f : Value → Value → Outcome) → ((a b : Value) → OutcomeAt P (f a b)) → (xs : List Value) (v : Value) →
      OutcomeAt P (folded f xs v)
  folded_at f r [] v = tt
  folded_at f r (x ∷ xs) v = with_at P (f v x) (folded f xs) (r v x) (folded_at f r xs)

  either_form : (b : Bool) (f g : Formed) → FormAt P f → FormAt P g → FormAt P (if b then f else g)
  either_form true f g h k = h
  either_form false f g h k = k

  form_faults_at : (fs : List Formed) → FormsAt P fs → FaultAt P (form_faults fs)
  form_faults_at [] h = tt
  form_faults_at (f ∷ fs) h = join_at P (form_fault f) (form_faults fs) h.0 (form_faults_at fs h.1)

  form_unless_at : (g : Fault) (f : Formed) → FaultAt P g → FormAt P f → FormAt P (fault_or_form g f)
  form_unless_at NoFault f h k = k
  form_unless_at (IsWrong p) f h k = h
  form_unless_at (IsBig p) f h k = h

  plain_at : (o : Outcome) → OutcomeAt P o → FormAt P (plain o)
  plain_at (Val v) h = tt
  plain_at (Wrong p) h = h
  plain_at (Big p) h = h

  either_effect : (b : Bool) (e f : Effect) → EffectAt P e → EffectAt P f → EffectAt P (if b then e else f)
  either_effect true e f h k = h
  either_effect false e f h k = k

  meant_at : (o : Option Denotation) (a : Denotation) → WholeAt P o → DenotationAt P a → DenotationAt P (meant o a)
  meant_at None a h k = k
  meant_at (Some b) a h k = h

-- ---- what a node does at its own place: children

module _ (P : Place → Type 0) (p : Place) (here : P p) where
  pub absent_at : DenotationAt P (absent p)
  absent_at = record { value = λ s t. here; form = λ s t. here; act = λ m s t. here; unchanged = λ s t. here }

  pub child_at : (n : ℕ) (as' : List Denotation) → DenotationsAt P as' → DenotationAt P (child p n as')
  child_at n [] h = absent_at
  child_at zero (a ∷ as') h = h.0
  child_at (suc n) (a ∷ as') h = child_at n as' h.1

  -- ---- binders

  on_all_truths_at : (f : List Bool → Outcome) → ((bs : List Bool) → OutcomeAt P (f bs)) → (vs : List Value) →
      OutcomeAt P (on_all_truths p f vs)
  on_all_truths_at f r vs = by_truths (truths vs)
    where
      by_truths : (o : Option (List Bool)) → OutcomeAt P (elim o [ None ↦ Wrong p | Some bs ↦ f bs ])
      by_truths None = here
      by_truths (Some bs) = r bs

  bound_at : (o : Op) (cs : List (List Value)) (vs : List Value) → OutcomeAt P (bound_table p o cs vs)
  bound_at op.Exists cs vs = on_all_truths_at (λ bs. yes_no (list_any (λ b. b) bs)) (λ bs. tt) vs
  bound_at op.Forall cs vs = on_all_truths_at (λ bs. yes_no (list_all (λ b. b) bs)) (λ bs. tt) vs
  bound_at op.Filter cs vs = on_all_truths_at (λ bs. Val (the_set (kept cs bs))) (λ bs. tt) vs
  bound_at op.MapTo cs vs = tt
  bound_at op.Lambda cs vs = tt
  bound_at o cs vs = here

  over_at : (o : Op) (n : ℕ) (v : View) → ViewAt P v → (s t : State) → OutcomeAt P (over_members p o n v s t)
  over_at o n v r s t =
      let body : List Value → Outcome = λ vs. (child p n (v.under vs)).value s t in
      let all : List (List Value) → Outcome = λ xss. strict (map body (choices xss)) (bound_table p o (choices xss)) in
      strict_at P (outcomes (take n v.here) s t) (on_all_sets p all)
      (outcomes_at P (take n v.here) (taken (DenotationAt P) n v.here r.here) s t)
      (on_all_sets_at P p here all (λ xss.
      strict_at P (map body (choices xss)) (bound_table p o (choices xss))
      (each_at P body (λ vs. (child_at n (v.under vs) (r.under vs)).value s t) (choices xss))
      (bound_at o (choices xss))))

  -- ---- EXCEPT and folds

  updated_at : (us : List Update) → AllByRecursion (UpdateAt P) us → (f : Value) → OutcomeAt P (updated p us f)
  updated_at [] h f = tt
  updated_at (u ∷ us) h f = by_place (updated_at us h.1) (at_path f u.0)
    where
      by_place : ((g : Value) → OutcomeAt P (updated p us g)) → (o : Reached) → OutcomeAt P
          (elim o [
            | At old ↦ with_value (u.1 old) (λ new. updated p us (set_path u.0 new f))
            | Outside ↦ updated p us f
            | NoFunction ↦ Wrong p
          ])
      by_place rest (At old) =
          with_at P (u.1 old) (λ new. updated p us (set_path u.0 new f)) (h.0 old) (λ new. rest (set_path u.0 new f))
      by_place rest Outside = rest f
      by_place rest NoFunction = here

  first_at : (us : List Update) → AllByRecursion (UpdateAt P) us → (xs : List Value) →
      OutcomeAt P (first_updated p us xs)
  first_at us h [] = here
  first_at us h (f ∷ xs) = updated_at us h f

  updates_at : (ns : List ℕ) (ks : List Denotation) (f : List Value → List Denotation) →
      ((vs : List Value) → DenotationsAt P (f vs)) → (s t : State) → AllByRecursion (UpdateAt P) (updates p ns ks f s t)
  updates_at [] ks f r s t = tt
  updates_at (n ∷ ns) ks f r s t = (
    λ v. (child_at n (f (v ∷ [])) (r (v ∷ []))).value s t,
    updates_at ns (drop (suc n) ks) (λ vs. drop (suc n) (f vs))
        (λ vs. dropped (DenotationAt P) (suc n) (f vs) (r vs)) s t,
  )

  except_at : (ns : List ℕ) (ks : List Denotation) → DenotationsAt P ks → (f : List Value → List Denotation) →
      ((vs : List Value) → DenotationsAt P (f vs)) → (s t : State) → OutcomeAt P (except p ns ks f s t)
  except_at ns [] h f r s t = here
  except_at ns (a ∷ ks) h f r s t =
      strict_at P (outcomes (a ∷ all_indexes ns ks) s t) (first_updated p (updates p ns ks (λ vs. drop 1 (f vs)) s t))
      (outcomes_at P (a ∷ all_indexes ns ks) (h.0, indexes_at P ns ks h.1) s t)
      (first_at (updates p ns ks (λ vs. drop 1 (f vs)) s t)
      (updates_at ns ks (λ vs. drop 1 (f vs)) (λ vs. dropped (DenotationAt P) 1 (f vs) (r vs)) s t))

  fold_over_at : (f : Value → Value → Outcome) → ((a b : Value) → OutcomeAt P (f a b)) → (vs : List Value) →
      OutcomeAt P (fold_over p f vs)
  fold_over_at f r (v ∷ q ∷ []) = by_layer (out-Value q)
    where
      by_layer : (l : Layer Value) →
          OutcomeAt P
          (elim l as (λ _. Outcome) [ layer.Fun ps ↦ on_items p (λ xs. folded f xs v) (items_of ps) | _ ↦ Wrong p ])
      by_layer (layer.Fun ps) = on_items_at P p here (λ xs. folded f xs v) (λ xs. folded_at P f r xs v) (items_of ps)
      by_layer l = here
  fold_over_at f r vs = here

  -- ---- set forms

  form_of_all_at : (make : List SetForm → SetForm) (fs : List Formed) → FormsAt P fs → FormAt P (form_of_all p make fs)
  form_of_all_at make fs h =
      form_unless_at P (form_faults fs)
      (if all_set_forms (made fs) then Made (make (made fs)) else Broken (IsWrong p))
      (form_faults_at P fs h)
      (either_form P (all_set_forms (made fs)) (Made (make (made fs))) (Broken (IsWrong p)) tt here)

  form_of_one_at : (make : SetForm → SetForm) (fs : List Formed) → FormsAt P fs → FormAt P (form_of_one p make fs)
  form_of_one_at make (Made g ∷ []) h = either_form P (is_set_form g) (Made (make g)) (Broken (IsWrong p)) tt here
  form_of_one_at make (Broken g ∷ []) h = h.0
  form_of_one_at make fs h = here

  functions_from_at : (o : Option (List Value)) (fs : List Formed) → FormsAt P fs → FormAt P (functions_from p o fs)
  functions_from_at None fs h = here
  functions_from_at (Some xs) fs h = form_of_one_at (form.Functions xs) fs h

  function_form_at : (os : List Outcome) (fs : List Formed) → OutcomesAt P os → FormsAt P fs →
      FormAt P (function_form p os fs)
  function_form_at (o ∷ os) (d ∷ fs) h k =
      form_unless_at P (join_faults (fault_of o) (form_faults fs))
      (functions_from p (option_and_then set_items (layer_of o)) fs)
      (join_at P (fault_of o) (form_faults fs) (fault_at P o h.0) (form_faults_at P fs k.1))
      (functions_from_at (option_and_then set_items (layer_of o)) fs k.1)
  function_form_at os fs h k = here

  told : (f : Fault) → FaultAt P f → OutcomeAt P (elim f [ NoFault ↦ Wrong p | IsWrong q ↦ Wrong q | IsBig q ↦ Big q ])
  told NoFault h = here
  told (IsWrong q) h = h
  told (IsBig q) h = h

  in_form_at : (test : Value → SetForm → Outcome) → ((v : Value) (f : SetForm) → OutcomeAt P (test v f)) →
      (os : List Outcome) (fs : List Formed) → OutcomesAt P os → FormsAt P fs → OutcomeAt P (in_form p test os fs)
  in_form_at test r (Val v ∷ os) (d ∷ Made f ∷ []) h k = either_at P (is_set_form f) (test v f) (Wrong p) (r v f) here
  in_form_at test r (Val v ∷ os) (d ∷ Broken f ∷ []) h k = told (join_faults NoFault f) k.1.0
  in_form_at test r (Wrong q ∷ os) (d ∷ f ∷ []) h k =
      told (join_faults (IsWrong q) (form_fault f)) (join_at P (IsWrong q) (form_fault f) h.0 k.1.0)
  in_form_at test r (Big q ∷ os) (d ∷ f ∷ []) h k =
      told (join_faults (IsBig q) (form_fault f)) (join_at P (IsBig q) (form_fault f) h.0 k.1.0)
  in_form_at test r os fs h k = here

  all_in_at : (v : Value) (f : SetForm) → OutcomeAt P (all_in p v f)
  all_in_at v f = by_items (set_items (out-Value v))
    where
      by_items : (o : Option (List Value)) →
          OutcomeAt P (elim o [ None ↦ Wrong p | Some xs ↦ yes_no (list_all (belongs f) xs) ])
      by_items None = here
      by_items (Some xs) = tt

  -- ---- names and UNCHANGED

  found_at : (o : Option Value) → OutcomeAt P (value_found p o)
  found_at None = here
  found_at (Some v) = tt

  changed_at : (o : Outcome) → OutcomeAt P o → OutcomeAt P (changed p o)
  changed_at o h = choose_at P p here o (yes_no false) (yes_no true) h tt tt

  kept_at : (a b : Outcome) → OutcomeAt P a → OutcomeAt P b → OutcomeAt P (kept_value p a b)
  kept_at a b h k = strict_at P (b ∷ a ∷ []) (table None p op.Eq) (k, (h, tt)) (table_at P None p here op.Eq)

-- ---- a node, by its operator

module _ (P : Place → Type 0) (w : Width) (p : Place) (here : P p) where
  pub value_at : (o : Op) (n : ℕ) (v : View) → ViewAt P v → (s t : State) →
      OutcomeAt P (value_of w p o n v s t)
  value_at (op.Bool b) n v r s t = tt
  value_at (op.Int i) n v r s t = number_at P w p here i
  value_at (op.Str a) n v r s t = tt
  value_at op.And n v r s t = conjoined_at P p here (outcomes v.here s t) (outcomes_at P v.here r.here s t)
  value_at op.Or n v r s t = disjoined_at P p here (outcomes v.here s t) (outcomes_at P v.here r.here s t)
  value_at op.Implies n v r s t = implied_at P p here (outcomes v.here s t) (outcomes_at P v.here r.here s t)
  value_at op.If n v r s t = if_chosen_at P p here (outcomes v.here s t) (outcomes_at P v.here r.here s t)
  value_at (op.Case other) n v r s t = case_chosen_at P p here (outcomes v.here s t) (outcomes_at P v.here r.here s t)
  value_at op.In n v r s t =
      in_form_at P p here (λ v f. yes_no (belongs f v)) (λ v f. tt) (outcomes v.here s t) (forms v.here s t)
      (outcomes_at P v.here r.here s t) (forms_at P v.here r.here s t)
  value_at op.NotIn n v r s t =
      in_form_at P p here (λ v f. yes_no (not (belongs f v))) (λ v f. tt) (outcomes v.here s t) (forms v.here s t)
      (outcomes_at P v.here r.here s t) (forms_at P v.here r.here s t)
  value_at op.SubsetEq n v r s t =
      in_form_at P p here (all_in p) (all_in_at P p here) (outcomes v.here s t) (forms v.here s t)
      (outcomes_at P v.here r.here s t) (forms_at P v.here r.here s t)
  value_at op.Exists n v r s t = over_at P p here op.Exists n v r s t
  value_at op.Forall n v r s t = over_at P p here op.Forall n v r s t
  value_at op.Filter n v r s t = over_at P p here op.Filter n v r s t
  value_at op.MapTo n v r s t = over_at P p here op.MapTo n v r s t
  value_at op.Lambda n v r s t = over_at P p here op.Lambda n v r s t
  value_at (op.Except ns) n v r s t = except_at P p here ns v.here r.here v.under r.under s t
  value_at op.Fold n v r s t =
      let f : Value → Value → Outcome = λ a b. (child p 0 (v.under (a ∷ b ∷ []))).value s t in
      strict_at P (outcomes (drop 1 v.here) s t) (fold_over p f)
      (outcomes_at P (drop 1 v.here) (dropped (DenotationAt P) 1 v.here r.here) s t)
      (fold_over_at P p here f (λ a b. (child_at P p here 0 (v.under (a ∷ b ∷ [])) (r.under (a ∷ b ∷ []))).value s t))
  value_at (op.Name i primed) n v r s t = found_at P p here (slice_get (if primed then t else s).vals i)
  value_at (op.Bound x) n v r s t = found_at P p here v.held
  value_at op.Prime n v r s t = (child_at P p here 0 v.here r.here).value t t
  value_at op.Unchanged n v r s t = (child_at P p here 0 v.here r.here).unchanged s t
  value_at op.Boxed n v r s t =
      disjoined_at P p here ((child p 0 v.here).value s t ∷ (child p 1 v.here).unchanged s t ∷ [])
      ((child_at P p here 0 v.here r.here).value s t, ((child_at P p here 1 v.here r.here).unchanged s t, tt))
  value_at op.Angled n v r s t =
      conjoined_at P p here ((child p 0 v.here).value s t ∷ changed p ((child p 1 v.here).unchanged s t) ∷ []) (
        (child_at P p here 0 v.here r.here).value s t,
        (
          changed_at P p here ((child p 1 v.here).unchanged s t) ((child_at P p here 1 v.here r.here).unchanged s t),
          tt,
        ),
      )
  value_at (op.Noted x) n v r s t = (child_at P p here 0 v.here r.here).value s t
  value_at o n v r s t =
      strict_at P (outcomes v.here s t) (table w p o) (outcomes_at P v.here r.here s t) (table_at P w p here o)

  formed_at : (o : Op) (n : ℕ) (v : View) → ViewAt P v → (s t : State) →
      FormAt P (form_of w p o n v s t)
  formed_at op.IntSet n v r s t = tt
  formed_at op.NatSet n v r s t = tt
  formed_at op.StringSet n v r s t = tt
  formed_at op.SeqSet n v r s t =
      form_of_one_at P p here form.Sequences (forms v.here s t) (forms_at P v.here r.here s t)
  formed_at op.Powerset n v r s t =
      form_of_one_at P p here form.Subsets (forms v.here s t) (forms_at P v.here r.here s t)
  formed_at op.FunSet n v r s t =
      function_form_at P p here (outcomes v.here s t) (forms v.here s t) (outcomes_at P v.here r.here s t)
      (forms_at P v.here r.here s t)
  formed_at (op.RecSet names) n v r s t =
      form_of_all_at P p here (form.Records names) (forms v.here s t) (forms_at P v.here r.here s t)
  formed_at op.Product n v r s t = form_of_all_at P p here form.Tuples (forms v.here s t) (forms_at P v.here r.here s t)
  formed_at (op.Noted x) n v r s t = (child_at P p here 0 v.here r.here).form s t
  formed_at op.Prime n v r s t = (child_at P p here 0 v.here r.here).form t t
  formed_at o n v r s t = plain_at P (value_of w p o n v s t) (value_at o n v r s t)

  keeps_at : (o : Op) (n : ℕ) (v : View) → ViewAt P v → (s t : State) →
      OutcomeAt P (unchanged_of w p o n v s t)
  keeps_at op.Tuple n v r s t =
      conjoined_at P p here (map (λ (a : Denotation). a.unchanged s t) v.here)
      (mapped (DenotationAt P) (OutcomeAt P) (λ a. a.unchanged s t) (λ a q. q.unchanged s t) v.here r.here)
  keeps_at (op.Noted x) n v r s t = (child_at P p here 0 v.here r.here).unchanged s t
  keeps_at op.Prime n v r s t = (child_at P p here 0 v.here r.here).unchanged t t
  keeps_at o n v r s t =
      kept_at P p here (value_of w p o n v s t) (value_of w p o n v t t) (value_at o n v r s t) (value_at o n v r t t)

  -- an effect where a name is mentioned, else that of the value
  or_value_at : (o : Op) (n : ℕ) (v : View) → ViewAt P v → (s t : State) → (b : Bool) (e : Effect) →
      EffectAt P e → EffectAt P (if b then e else effect_of (value_of w p o n v s t))
  or_value_at o n v r s t b e h =
      either_effect P b e (effect_of (value_of w p o n v s t)) h
      (effect_at P (value_of w p o n v s t) (value_at o n v r s t))

  acts_at : (o : Op) (n : ℕ) (v : View) → ViewAt P v → (m : Assignable) (s t : State) →
      EffectAt P (act_of w p o n v m s t)
  acts_at op.And n v r m s t = effects_and_at P (effects m v.here s t) (effects_at P m v.here r.here s t)
  acts_at op.Or n v r m s t =
      or_value_at op.Or n v r s t (any_mentions m v.here) (effects_or (effects m v.here s t))
      (effects_or_at P (effects m v.here s t) (effects_at P m v.here r.here s t))
  acts_at op.If n v r m s t =
      or_value_at op.If n v r s t (any_mentions m v.here) (if_effect p (outcomes v.here s t) (effects m v.here s t))
      (if_effect_at P p here (outcomes v.here s t) (effects m v.here s t) (outcomes_at P v.here r.here s t)
      (effects_at P m v.here r.here s t))
  acts_at (op.Case other) n v r m s t =
      or_value_at (op.Case other) n v r s t (any_mentions m v.here)
      (case_effect p (outcomes v.here s t) (effects m v.here s t))
      (case_effect_at P p here (outcomes v.here s t) (effects m v.here s t) (outcomes_at P v.here r.here s t)
      (effects_at P m v.here r.here s t))
  acts_at op.Exists n v r m s t =
      exists_effect_at P p here (outcomes (take n v.here) s t) (λ vs. (child p n (v.under vs)).act m s t)
      (outcomes_at P (take n v.here) (taken (DenotationAt P) n v.here r.here) s t)
      (λ vs. (child_at P p here n (v.under vs) (r.under vs)).act m s t)
  acts_at (op.Noted x) n v r m s t = (child_at P p here 0 v.here r.here).act m s t
  acts_at op.Prime n v r m s t = (child_at P p here 0 v.here r.here).act (under_prime m) t t
  acts_at op.Boxed n v r m s t =
      or_value_at op.Boxed n v r s t (mentions_of p op.Boxed n v m)
      (effects_or ((child p 0 v.here).act m s t ∷ effect_of ((child p 1 v.here).unchanged s t) ∷ []))
      (effects_or_at P ((child p 0 v.here).act m s t ∷ effect_of ((child p 1 v.here).unchanged s t) ∷ []) (
        (child_at P p here 0 v.here r.here).act m s t,
        (effect_at P ((child p 1 v.here).unchanged s t) ((child_at P p here 1 v.here r.here).unchanged s t), tt),
      ))
  acts_at op.Angled n v r m s t =
      effects_and_at P ((child p 0 v.here).act m s t ∷ effect_of (changed p ((child p 1 v.here).unchanged s t)) ∷ []) (
        (child_at P p here 0 v.here r.here).act m s t,
        (
          effect_at P (changed p ((child p 1 v.here).unchanged s t))
              (changed_at P p here ((child p 1 v.here).unchanged s t)
              ((child_at P p here 1 v.here r.here).unchanged s t)),
          tt,
        ),
      )
  acts_at o n v r m s t = effect_at P (value_of w p o n v s t) (value_at o n v r s t)

  pub denotation_at : (o : Op) (n : ℕ) (v : View) → ViewAt P v → DenotationAt P (denotation_of w p o n v)
  denotation_at o n v r =
      meant_at P v.whole _ r.whole (record {
        value = value_at o n v r;
        form = formed_at o n v r;
        act = acts_at o n v r;
        unchanged = keeps_at o n v r;
      })
