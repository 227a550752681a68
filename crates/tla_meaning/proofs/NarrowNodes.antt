-- Each operator under a width, beside the same without one.
use Rattle.std.proofs.Common.{◌≡◌, ℕ, suc, Bool, true, false, not, ◌||◌, List, [], ◌∷◌, ◌++◌, take, drop, map, zip, slice_get, Option, Some, None, refl, ap, ap₂, ◌∙◌, sym, subst, if◌then◌else◌}
use Rattle.std.specs.List.{list_any, list_all}
use Rattle.tla_values.specs.declared.value.Value.{Value, out-Value}
use Rattle.tla_values.specs.declared.value.Value.TheVariants as value
use Rattle.tla_meaning.specs.declared.op.Op.{Op}
use Rattle.tla_meaning.specs.declared.op.Op.TheVariants as op
use Rattle.tla_meaning.specs.declared.place.Place.{Place}
use Rattle.tla_meaning.specs.declared.job.State.{State}
use Rattle.tla_meaning.specs.declared.outcome.Fault.TheVariants.{NoFault}
use Rattle.tla_meaning.specs.declared.outcome.Outcome.{Outcome}
use Rattle.tla_meaning.specs.declared.outcome.Outcome.TheVariants.{Val, Wrong}
use Rattle.tla_meaning.specs.Outcomes.{join_faults, fault_of, joined, values, strict}
use Rattle.tla_meaning.specs.Shapes.{choices, set_items, the_function, the_set, truth}
use Rattle.tla_meaning.specs.Operators.{table, yes_no, on_all_sets}
use Rattle.tla_meaning.specs.declared.forms.SetForm.{SetForm}
use Rattle.tla_meaning.specs.declared.forms.SetForm.TheVariants as form
use Rattle.tla_meaning.specs.Forms.{belongs}
use Rattle.tla_meaning.specs.declared.actions.Assignable.{Assignable}
use Rattle.tla_meaning.specs.declared.actions.Effect.{Effect}
use Rattle.tla_meaning.specs.Scopes.{Denotation, value_found}
use Rattle.tla_meaning.specs.Meaning.{View, outcomes, child, truths, kept, argument, bound_table, over_members, Update, all_indexes, updates, first_updated, except, fold_over, all_in, changed, value_of, form_of, kept_value, unchanged_of}
use Rattle.tla_meaning.specs.Actions.{any_mentions, mentions_of, act_of, meant, denotation_of, under_prime}
use Rattle.tla_meaning.specs.Numbers.{Width}
use Rattle.tla_meaning.specs.Widths.{Narrow, SameValue, BothWrong}
use Rattle.tla_meaning.proofs.Joins.{both_assoc}
use Rattle.tla_meaning.proofs.Narrow.{left_none, right_none, none_narrow, more_narrow, values_narrow, strict_where, strict_narrow, each_narrow}
use Rattle.tla_meaning.proofs.NarrowTable.{number_narrow, on_all_sets_narrow, table_narrow}
use Rattle.tla_meaning.proofs.NarrowForms.{choose_narrow, conjoined_narrow, disjoined_narrow, implied_narrow, if_chosen_narrow, case_chosen_narrow, AllUpdates, no_updates, more_updates, first_updated_narrow, fold_over_narrow, NarrowForm, SameForm, form_of_all_narrow, form_of_one_narrow, function_form_narrow, plain_narrow, in_form_narrow}
use Rattle.tla_meaning.proofs.NarrowEffects.{NarrowEffect, no_effects, more_effects, effect_of_narrow, effects_and_narrow, effects_or_narrow, case_effect_narrow, if_effect_narrow, exists_effect_narrow}
use Rattle.tla_meaning.proofs.NarrowViews.{NarrowDenotation, AllDenotations, no_denotations, more_denotations, child_narrow, take_narrow, drop_narrow, append_narrow, outcomes_narrow, unchanged_narrow, forms_narrow, effects_narrow, any_same, NarrowWhole, NoWhole, IsWhole, NarrowView}

-- ---- values

truths_same : {w : Width} → (p : Place) (f : List Bool → Value) (o : Option (List Bool)) →
    Narrow w (elim o [ None ↦ Wrong p | Some bs ↦ Val (f bs) ]) (elim o [ None ↦ Wrong p | Some bs ↦ Val (f bs) ])
truths_same p f None = BothWrong p p
truths_same p f (Some bs) = SameValue (f bs)

bound_same : {w : Width} → (p : Place) (o : Op) (cs : List (List Value)) (vs : List Value) → Narrow w (bound_table p o cs vs) (bound_table p o cs vs)
bound_same p op.Exists cs vs = truths_same p (λ bs. truth (list_any (λ b. b) bs)) (truths vs)
bound_same p op.Forall cs vs = truths_same p (λ bs. truth (list_all (λ b. b) bs)) (truths vs)
bound_same p op.Filter cs vs = truths_same p (λ bs. the_set (kept cs bs)) (truths vs)
bound_same p op.MapTo cs vs = SameValue (the_set vs)
bound_same p op.Lambda cs vs = SameValue (the_function (zip (map argument cs) vs))
bound_same p o cs vs = BothWrong p p

value_same : {w : Width} → (p : Place) (o : Option Value) → Narrow w (value_found p o) (value_found p o)
value_same p None = BothWrong p p
value_same p (Some v) = SameValue v

all_in_same : {w : Width} → (p : Place) (f : SetForm) (o : Option (List Value)) →
    Narrow w (elim o [ None ↦ Wrong p | Some xs ↦ yes_no (list_all (belongs f) xs) ]) (elim o [ None ↦ Wrong p | Some xs ↦ yes_no (list_all (belongs f) xs) ])
all_in_same p f None = BothWrong p p
all_in_same p f (Some xs) = SameValue (truth (list_all (belongs f) xs))

over_members_narrow : {w : Width} → (p : Place) (o : Op) (n : ℕ) (v u : View) → NarrowView w v u → (s t : State) →
    Narrow w (over_members p o n v s t) (over_members p o n u s t)
over_members_narrow p o n v u r s t =
    let f : List Value → Outcome = λ vs. (child p n (v.under vs)).value s t in
    let g : List Value → Outcome = λ vs. (child p n (u.under vs)).value s t in
    let all : (List Value → Outcome) → List (List Value) → Outcome = λ h xss. strict (map h (choices xss)) (bound_table p o (choices xss)) in
    strict_narrow (on_all_sets p (all f)) (on_all_sets p (all g)) (outcomes_narrow (take_narrow n r.here) s t)
    (on_all_sets_narrow p (all f) (all g) (λ xss.
    strict_narrow (bound_table p o (choices xss)) (bound_table p o (choices xss))
    (each_narrow f g (λ vs. (child_narrow p n (r.under vs)).value s t) (choices xss))
    (λ vs. bound_same p o (choices xss) vs)))

all_indexes_narrow : {w : Width} → (ns : List ℕ) {ks ls : List Denotation} → AllDenotations w ks ls → AllDenotations w (all_indexes ns ks) (all_indexes ns ls)
all_indexes_narrow [] rs = no_denotations
all_indexes_narrow (n ∷ ns) rs = append_narrow (take_narrow n rs) (all_indexes_narrow ns (drop_narrow (suc n) rs))

joined_parts : (as' bs : List Denotation) (s t : State) → joined (outcomes (as' ++ bs) s t) ≡ join_faults (joined (outcomes as' s t)) (joined (outcomes bs s t))
joined_parts [] bs s t = refl
joined_parts (a ∷ as') bs s t =
    ap (join_faults (fault_of (a.value s t))) (joined_parts as' bs s t)
    ∙ sym (both_assoc (fault_of (a.value s t)) (joined (outcomes as' s t)) (joined (outcomes bs s t)))

-- indexes without a fault have the same values
updates_narrow : {w : Width} → (p : Place) (ns : List ℕ) {ks ls : List Denotation} → AllDenotations w ks ls → (f g : List Value → List Denotation) →
    ((vs : List Value) → AllDenotations w (f vs) (g vs)) → (s t : State) → joined (outcomes (all_indexes ns ks) s t) ≡ NoFault →
    AllUpdates w (updates p ns ks f s t) (updates p ns ls g s t)
updates_narrow p [] rs f g h s t e = no_updates
updates_narrow {w = w} p (n ∷ ns) {ks = ks} {ls = ls} rs f g h s t e =
    let first : List Denotation = take n ks in
    let others : List Denotation = all_indexes ns (drop (suc n) ks) in
    let parts : join_faults (joined (outcomes first s t)) (joined (outcomes others s t)) ≡ NoFault = sym (joined_parts first others s t) ∙ e in
    let a : Value → Outcome = λ old. (child p n (f (old ∷ []))).value s t in
    let b : Value → Outcome = λ old. (child p n (g (old ∷ []))).value s t in
    let us : List Update = updates p ns (drop (suc n) ks) (λ vs. drop (suc n) (f vs)) s t in
    let ws : List Update = updates p ns (drop (suc n) ls) (λ vs. drop (suc n) (g vs)) s t in
    subst (λ (is : List Value). AllUpdates w ((values (outcomes first s t), a) ∷ us) ((is, b) ∷ ws))
    (values_narrow (outcomes_narrow (take_narrow n rs) s t) (left_none (joined (outcomes first s t)) (joined (outcomes others s t)) parts))
    (more_updates (values (outcomes first s t)) a b (λ old. (child_narrow p n (h (old ∷ []))).value s t)
    (updates_narrow p ns (drop_narrow (suc n) rs) (λ vs. drop (suc n) (f vs)) (λ vs. drop (suc n) (g vs)) (λ vs. drop_narrow (suc n) (h vs)) s t
    (right_none (joined (outcomes first s t)) (joined (outcomes others s t)) parts)))

except_narrow : {w : Width} → (p : Place) (ns : List ℕ) {ks ls : List Denotation} → AllDenotations w ks ls → (f g : List Value → List Denotation) →
    ((vs : List Value) → AllDenotations w (f vs) (g vs)) → (s t : State) → Narrow w (except p ns ks f s t) (except p ns ls g s t)
except_narrow p ns no_denotations f g h s t = BothWrong p p
except_narrow p ns (more_denotations {a = a} {b = b} {as' = ks} {bs = ls} r rs) f g h s t =
    strict_where (first_updated p (updates p ns ks (λ vs. drop 1 (f vs)) s t)) (first_updated p (updates p ns ls (λ vs. drop 1 (g vs)) s t))
    (outcomes_narrow (more_denotations r (all_indexes_narrow ns rs)) s t)
    (λ e. first_updated_narrow p
    (updates_narrow p ns rs (λ vs. drop 1 (f vs)) (λ vs. drop 1 (g vs)) (λ vs. drop_narrow 1 (h vs)) s t
    (right_none (fault_of (a.value s t)) (joined (outcomes (all_indexes ns ks) s t)) e)))

changed_narrow : {w : Width} → (p : Place) {o q : Outcome} → Narrow w o q → Narrow w (changed p o) (changed p q)
changed_narrow p r = choose_narrow p r (SameValue (truth false)) (SameValue (truth true))

pub value_narrow : (w : Width) (p : Place) (o : Op) (n : ℕ) (v u : View) → NarrowView w v u → (s t : State) →
    Narrow w (value_of w p o n v s t) (value_of None p o n u s t)
value_narrow w p (op.Bool b) n v u r s t = SameValue (truth b)
value_narrow w p (op.Int i) n v u r s t = number_narrow w p i
value_narrow w p (op.Str a) n v u r s t = SameValue (value.Text a)
value_narrow w p op.And n v u r s t = conjoined_narrow p (outcomes_narrow r.here s t)
value_narrow w p op.Or n v u r s t = disjoined_narrow p (outcomes_narrow r.here s t)
value_narrow w p op.Implies n v u r s t = implied_narrow p (outcomes_narrow r.here s t)
value_narrow w p op.If n v u r s t = if_chosen_narrow p (outcomes_narrow r.here s t)
value_narrow w p (op.Case other) n v u r s t = case_chosen_narrow p (outcomes_narrow r.here s t)
value_narrow w p op.In n v u r s t =
    in_form_narrow p (λ v f. yes_no (belongs f v)) (λ v f. SameValue (truth (belongs f v))) (outcomes_narrow r.here s t) (forms_narrow r.here s t)
value_narrow w p op.NotIn n v u r s t =
    in_form_narrow p (λ v f. yes_no (not (belongs f v))) (λ v f. SameValue (truth (not (belongs f v)))) (outcomes_narrow r.here s t) (forms_narrow r.here s t)
value_narrow w p op.SubsetEq n v u r s t = in_form_narrow p (all_in p) (λ v f. all_in_same p f (set_items (out-Value v))) (outcomes_narrow r.here s t) (forms_narrow r.here s t)
value_narrow w p op.Exists n v u r s t = over_members_narrow p op.Exists n v u r s t
value_narrow w p op.Forall n v u r s t = over_members_narrow p op.Forall n v u r s t
value_narrow w p op.Filter n v u r s t = over_members_narrow p op.Filter n v u r s t
value_narrow w p op.MapTo n v u r s t = over_members_narrow p op.MapTo n v u r s t
value_narrow w p op.Lambda n v u r s t = over_members_narrow p op.Lambda n v u r s t
value_narrow w p (op.Except ns) n v u r s t = except_narrow p ns r.here v.under u.under r.under s t
value_narrow w p op.Fold n v u r s t =
    let f : Value → Value → Outcome = λ a b. (child p 0 (v.under (a ∷ b ∷ []))).value s t in
    let g : Value → Value → Outcome = λ a b. (child p 0 (u.under (a ∷ b ∷ []))).value s t in
    strict_narrow (fold_over p f) (fold_over p g) (outcomes_narrow (drop_narrow 1 r.here) s t)
    (fold_over_narrow p f g (λ a b. (child_narrow p 0 (r.under (a ∷ b ∷ []))).value s t))
value_narrow w p (op.Name i primed) n v u r s t = value_same p (slice_get (if primed then t else s).vals i)
value_narrow w p (op.Bound x) n v u r s t =
    subst (λ (o : Option Value). Narrow w (value_found p v.held) (value_found p o)) r.held (value_same p v.held)
value_narrow w p op.Prime n v u r s t = (child_narrow p 0 r.here).value t t
value_narrow w p op.Unchanged n v u r s t = (child_narrow p 0 r.here).unchanged s t
value_narrow w p op.Boxed n v u r s t =
    disjoined_narrow p (more_narrow ((child_narrow p 0 r.here).value s t) (more_narrow ((child_narrow p 1 r.here).unchanged s t) none_narrow))
value_narrow w p op.Angled n v u r s t =
    conjoined_narrow p
    (more_narrow ((child_narrow p 0 r.here).value s t) (more_narrow (changed_narrow p ((child_narrow p 1 r.here).unchanged s t)) none_narrow))
value_narrow w p (op.Noted x) n v u r s t = (child_narrow p 0 r.here).value s t
value_narrow w p o n v u r s t = strict_narrow (table w p o) (table None p o) (outcomes_narrow r.here s t) (table_narrow w p o)

-- ---- forms and UNCHANGED

form_narrow : (w : Width) (p : Place) (o : Op) (n : ℕ) (v u : View) → NarrowView w v u → (s t : State) →
    NarrowForm w (form_of w p o n v s t) (form_of None p o n u s t)
form_narrow w p op.IntSet n v u r s t = SameForm form.AllInts
form_narrow w p op.NatSet n v u r s t = SameForm form.AllNats
form_narrow w p op.StringSet n v u r s t = SameForm form.AllTexts
form_narrow w p op.SeqSet n v u r s t = form_of_one_narrow p form.Sequences (forms_narrow r.here s t)
form_narrow w p op.Powerset n v u r s t = form_of_one_narrow p form.Subsets (forms_narrow r.here s t)
form_narrow w p op.FunSet n v u r s t = function_form_narrow p (outcomes_narrow r.here s t) (forms_narrow r.here s t)
form_narrow w p (op.RecSet names) n v u r s t = form_of_all_narrow p (form.Records names) (forms_narrow r.here s t)
form_narrow w p op.Product n v u r s t = form_of_all_narrow p form.Tuples (forms_narrow r.here s t)
form_narrow w p (op.Noted x) n v u r s t = (child_narrow p 0 r.here).form s t
form_narrow w p op.Prime n v u r s t = (child_narrow p 0 r.here).form t t
form_narrow w p o n v u r s t = plain_narrow (value_narrow w p o n v u r s t)

kept_narrow : {w : Width} → (p : Place) {a b c d : Outcome} → Narrow w a c → Narrow w b d → Narrow w (kept_value p a b) (kept_value p c d)
kept_narrow {w = w} p r s =
    strict_narrow (table None p op.Eq) (table None p op.Eq) (more_narrow s (more_narrow r none_narrow)) (table_narrow w p op.Eq)

keeps_narrow : (w : Width) (p : Place) (o : Op) (n : ℕ) (v u : View) → NarrowView w v u → (s t : State) →
    Narrow w (unchanged_of w p o n v s t) (unchanged_of None p o n u s t)
keeps_narrow w p op.Tuple n v u r s t = conjoined_narrow p (unchanged_narrow r.here s t)
keeps_narrow w p (op.Noted x) n v u r s t = (child_narrow p 0 r.here).unchanged s t
keeps_narrow w p op.Prime n v u r s t = (child_narrow p 0 r.here).unchanged t t
keeps_narrow w p o n v u r s t = kept_narrow p (value_narrow w p o n v u r s t) (value_narrow w p o n v u r t t)

-- ---- actions

mentions_same : {w : Width} → (p : Place) (o : Op) (n : ℕ) (v u : View) → NarrowView w v u → (m : Assignable) → mentions_of p o n v m ≡ mentions_of p o n u m
mentions_same p (op.Name i primed) n v u r m = refl
mentions_same p op.Prime n v u r m = (child_narrow p 0 r.here).mentions (under_prime m)
mentions_same p op.Unchanged n v u r m =
    ap₂ (λ (x y : Bool). x || y) ((child_narrow p 0 r.here).mentions (under_prime m)) ((child_narrow p 0 r.here).mentions m)
mentions_same p op.Boxed n v u r m =
    ap₂ (λ (x y : Bool). x || y)
    (ap₂ (λ (x y : Bool). x || y) ((child_narrow p 0 r.here).mentions m) ((child_narrow p 1 r.here).mentions (under_prime m)))
    ((child_narrow p 1 r.here).mentions m)
mentions_same p op.Angled n v u r m =
    ap₂ (λ (x y : Bool). x || y)
    (ap₂ (λ (x y : Bool). x || y) ((child_narrow p 0 r.here).mentions m) ((child_narrow p 1 r.here).mentions (under_prime m)))
    ((child_narrow p 1 r.here).mentions m)
mentions_same p o n v u r m = ap₂ (λ (x y : Bool). x || y) (any_same m r.here) (any_same m (r.under []))

-- either of two effects
by_marks : {w : Width} → (b c : Bool) (e f g h : Effect) → b ≡ c → NarrowEffect w e g → NarrowEffect w f h → NarrowEffect w (if b then e else f) (if c then g else h)
by_marks {w = w} b c e f g h q x y = subst (λ (z : Bool). NarrowEffect w (if b then e else f) (if z then g else h)) q (either b)
  where
    either : (z : Bool) → NarrowEffect w (if z then e else f) (if z then g else h)
    either true = x
    either false = y

act_narrow : (w : Width) (p : Place) (o : Op) (n : ℕ) (v u : View) → NarrowView w v u → (m : Assignable) (s t : State) →
    NarrowEffect w (act_of w p o n v m s t) (act_of None p o n u m s t)
act_narrow w p op.And n v u r m s t = effects_and_narrow (effects_narrow m r.here s t)
act_narrow w p op.Or n v u r m s t =
    by_marks (any_mentions m v.here) (any_mentions m u.here) _ _ _ _ (any_same m r.here)
    (effects_or_narrow (effects_narrow m r.here s t)) (effect_of_narrow (value_narrow w p op.Or n v u r s t))
act_narrow w p op.If n v u r m s t =
    by_marks (any_mentions m v.here) (any_mentions m u.here) _ _ _ _ (any_same m r.here)
    (if_effect_narrow p (outcomes_narrow r.here s t) (effects_narrow m r.here s t)) (effect_of_narrow (value_narrow w p op.If n v u r s t))
act_narrow w p (op.Case other) n v u r m s t =
    by_marks (any_mentions m v.here) (any_mentions m u.here) _ _ _ _ (any_same m r.here)
    (case_effect_narrow p (outcomes_narrow r.here s t) (effects_narrow m r.here s t)) (effect_of_narrow (value_narrow w p (op.Case other) n v u r s t))
act_narrow w p op.Exists n v u r m s t =
    exists_effect_narrow p (λ vs. (child p n (v.under vs)).act m s t) (λ vs. (child p n (u.under vs)).act m s t)
    (outcomes_narrow (take_narrow n r.here) s t) (λ vs. (child_narrow p n (r.under vs)).act m s t)
act_narrow w p (op.Noted x) n v u r m s t = (child_narrow p 0 r.here).act m s t
act_narrow w p op.Prime n v u r m s t = (child_narrow p 0 r.here).act (under_prime m) t t
act_narrow w p op.Boxed n v u r m s t =
    by_marks (mentions_of p op.Boxed n v m) (mentions_of p op.Boxed n u m) _ _ _ _ (mentions_same p op.Boxed n v u r m)
    (effects_or_narrow (more_effects _ _ ((child_narrow p 0 r.here).act m s t) (more_effects _ _ (effect_of_narrow ((child_narrow p 1 r.here).unchanged s t)) no_effects)))
    (effect_of_narrow (value_narrow w p op.Boxed n v u r s t))
act_narrow w p op.Angled n v u r m s t =
    effects_and_narrow (more_effects _ _ ((child_narrow p 0 r.here).act m s t)
    (more_effects _ _ (effect_of_narrow (changed_narrow p ((child_narrow p 1 r.here).unchanged s t))) no_effects))
act_narrow w p o n v u r m s t = effect_of_narrow (value_narrow w p o n v u r s t)

meant_narrow : {w : Width} → {o q : Option Denotation} (a b : Denotation) → NarrowWhole w o q → NarrowDenotation w a b → NarrowDenotation w (meant o a) (meant q b)
meant_narrow a b NoWhole r = r
meant_narrow a b (IsWhole c d s) r = s

pub denotation_narrow : (w : Width) (p : Place) (o : Op) (n : ℕ) (v u : View) → NarrowView w v u → NarrowDenotation w (denotation_of w p o n v) (denotation_of None p o n u)
denotation_narrow w p o n v u r =
    meant_narrow
    (record { value = value_of w p o n v; form = form_of w p o n v; act = act_of w p o n v; unchanged = unchanged_of w p o n v; mentions = mentions_of p o n v })
    (record { value = value_of None p o n u; form = form_of None p o n u; act = act_of None p o n u; unchanged = unchanged_of None p o n u; mentions = mentions_of p o n u })
    r.whole
    (record { value = value_narrow w p o n v u r; form = form_narrow w p o n v u r; act = act_narrow w p o n v u r; unchanged = keeps_narrow w p o n v u r; mentions = mentions_same p o n v u r })
