-- Each operator gives normal values, where its operands do.
use Rattle.std.proofs.Common.{ℕ, zero, suc, Bool, true, false, not, List, [], ◌∷◌, take, drop, map, zip, Option, Some, None, if◌then◌else◌}
use Rattle.std.specs.Prelude.{slice_get}
use Rattle.std.specs.List.{AllByRecursion, list_any, list_all}
use Rattle.tla_values.specs.Order.{Layer}
use Rattle.tla_values.specs.Sets.{Normal, apply, override_at}
use Rattle.tla_values.specs.declared.value.Value.{Value, out-Value}
use Rattle.tla_values.specs.declared.value.Value.TheVariants as value
use Rattle.tla_values.specs.declared.value.Value.TheOpen as layer
use Rattle.tla_values.proofs.NormalLemmas.{fun_pairs, normal_override}
use Rattle.tla_meaning.specs.declared.op.Op.{Op}
use Rattle.tla_meaning.specs.declared.op.Op.TheVariants as op
use Rattle.tla_meaning.specs.declared.place.Place.{Place}
use Rattle.tla_meaning.specs.declared.job.State.{State}
use Rattle.tla_meaning.specs.declared.outcome.Fault.{Fault}
use Rattle.tla_meaning.specs.declared.outcome.Fault.TheVariants.{NoFault, IsWrong, IsBig}
use Rattle.tla_meaning.specs.declared.outcome.Outcome.{Outcome}
use Rattle.tla_meaning.specs.declared.outcome.Outcome.TheVariants.{Val, Wrong, Big}
use Rattle.tla_meaning.specs.Outcomes.{join_faults, joined, values, fault_or, strict, with_value}
use Rattle.tla_meaning.specs.Numbers.{Width}
use Rattle.tla_meaning.specs.Shapes.{the_set, choices, items_of, set_items}
use Rattle.tla_meaning.specs.Operators.{table, yes_no, on_all_sets, on_items}
use Rattle.tla_meaning.specs.declared.forms.SetForm.{SetForm}
use Rattle.tla_meaning.specs.Forms.{Formed, Made, Broken, form_fault, is_set_form, belongs}
use Rattle.tla_meaning.specs.Scopes.{Denotation, absent, value_found}
use Rattle.tla_meaning.specs.Meaning.{View, outcomes, child, forms, choose, by_truth, conjoined, disjoined, implied, if_chosen, case_chosen, truths, on_all_truths, kept, argument, bound_table, over_members, Update, Reached, At, Outside, NoFunction, reached_at, step_into, go_on, at_path, put_at, set_path, updated, all_indexes, updates, first_updated, except, folded, fold_over, in_form, all_in, read, changed, value_of, kept_value, unchanged_of}
use Rattle.tla_meaning.specs.Actions.{meant, denotation_of}
use Rattle.tla_meaning.proofs.NormalShapes.{Normals, NormalSet, NormalLists, NormalLayer, IfSomes, layer_normal, text_normal, the_set_normal, the_function_normal, all_plus, all_mapped, zip_pairs, sequence_normal, choices_normal, apply_normal, lists_of}
use Rattle.tla_meaning.specs.Outcomes.{IsNormalOutcome}
use Rattle.tla_meaning.proofs.NormalTable.{yes_normal, number_normal, on_items_normal, items_of_normal, on_all_sets_normal, taken, dropped, table_normal}

abbrev pub NormalOutcomes : List Outcome → Type 0
NormalOutcomes os = AllByRecursion IsNormalOutcome os

abbrev pub Good : State → Type 0
Good s = Normals s.vals

pub record NormalDenotation (a : Denotation) : Type 0 where
  pub value : (s t : State) → Good s → Good t → IsNormalOutcome (a.value s t)
  pub unchanged : (s t : State) → Good s → Good t → IsNormalOutcome (a.unchanged s t)

abbrev pub NormalDenotations : List Denotation → Type 0
NormalDenotations as' = AllByRecursion NormalDenotation as'

pub record NormalView (v : View) : Type 0 where
  pub here : NormalDenotations v.here
  pub under : (vs : List Value) → Normals vs → NormalDenotations (v.under vs)
  pub held : IfSomes Normal v.held
  pub whole : IfSomes NormalDenotation v.whole

pub absent_normal : (p : Place) → NormalDenotation (absent p)
absent_normal p = record { value = λ s t g h. tt; unchanged = λ s t g h. tt }

pub child_normal : (p : Place) (n : ℕ) (as' : List Denotation) → NormalDenotations as' → NormalDenotation (child p n as')
child_normal p n [] h = absent_normal p
child_normal p zero (a ∷ as') h = h.0
child_normal p (suc n) (a ∷ as') h = child_normal p n as' h.1

outcomes_normal : (as' : List Denotation) → NormalDenotations as' → (s t : State) → Good s → Good t → NormalOutcomes (outcomes as' s t)
outcomes_normal [] h s t g k = tt
outcomes_normal (a ∷ as') h s t g k = (h.0.value s t g k, outcomes_normal as' h.1 s t g k)

-- ---- joins

pub values_normal : (os : List Outcome) → NormalOutcomes os → Normals (values os)
values_normal [] h = tt
values_normal (Val v ∷ os) h = (h.0, values_normal os h.1)
values_normal (Wrong p ∷ os) h = values_normal os h.1
values_normal (Big p ∷ os) h = values_normal os h.1

unless_normal : (f : Fault) (o : Outcome) → IsNormalOutcome o → IsNormalOutcome (fault_or f o)
unless_normal NoFault o h = h
unless_normal (IsWrong p) o h = tt
unless_normal (IsBig p) o h = tt

strict_normal : (os : List Outcome) (f : List Value → Outcome) → NormalOutcomes os → ((vs : List Value) → Normals vs → IsNormalOutcome (f vs)) →
    IsNormalOutcome (strict os f)
strict_normal os f h r = unless_normal (joined os) (f (values os)) (r (values os) (values_normal os h))

with_normal : (o : Outcome) (f : Value → Outcome) → IsNormalOutcome o → ((v : Value) → Normal v → IsNormalOutcome (f v)) → IsNormalOutcome (with_value o f)
with_normal (Val v) f h r = r v h
with_normal (Wrong p) f h r = tt
with_normal (Big p) f h r = tt

each_normal : (f : List Value → Outcome) → ((vs : List Value) → Normals vs → IsNormalOutcome (f vs)) → (xss : List (List Value)) → NormalLists xss →
    NormalOutcomes (map f xss)
each_normal f r [] h = tt
each_normal f r (xs ∷ xss) h = (r xs h.0, each_normal f r xss h.1)

-- ---- truth values

by_truth_normal : (p : Place) (l : Layer Value) (a b : Outcome) → IsNormalOutcome a → IsNormalOutcome b → IsNormalOutcome (by_truth p l a b)
by_truth_normal p (layer.Bool true) a b h k = h
by_truth_normal p (layer.Bool false) a b h k = k
by_truth_normal p l a b h k = tt

choose_normal : (p : Place) (o a b : Outcome) → IsNormalOutcome a → IsNormalOutcome b → IsNormalOutcome (choose p o a b)
choose_normal p (Val v) a b h k = by_truth_normal p (out-Value v) a b h k
choose_normal p (Wrong q) a b h k = tt
choose_normal p (Big q) a b h k = tt

conjoined_normal : (p : Place) (os : List Outcome) → IsNormalOutcome (conjoined p os)
conjoined_normal p [] = yes_normal true
conjoined_normal p (o ∷ os) = choose_normal p o (conjoined p os) (yes_no false) (conjoined_normal p os) (yes_normal false)

disjoined_normal : (p : Place) (os : List Outcome) → IsNormalOutcome (disjoined p os)
disjoined_normal p [] = yes_normal false
disjoined_normal p (o ∷ os) = choose_normal p o (yes_no true) (disjoined p os) (yes_normal true) (disjoined_normal p os)

implied_normal : (p : Place) (os : List Outcome) → IsNormalOutcome (implied p os)
implied_normal p (a ∷ b ∷ []) =
    choose_normal p a (choose p b (yes_no true) (yes_no false)) (yes_no true)
    (choose_normal p b (yes_no true) (yes_no false) (yes_normal true) (yes_normal false)) (yes_normal true)
implied_normal p os = tt

if_chosen_normal : (p : Place) (os : List Outcome) → NormalOutcomes os → IsNormalOutcome (if_chosen p os)
if_chosen_normal p (c ∷ a ∷ b ∷ []) h = choose_normal p c a b h.1.0 h.1.1.0
if_chosen_normal p os h = tt

case_chosen_normal : (p : Place) (os : List Outcome) → NormalOutcomes os → IsNormalOutcome (case_chosen p os)
case_chosen_normal p [] h = tt
case_chosen_normal p (o ∷ []) h = h.0
case_chosen_normal p (c ∷ a ∷ os) h = choose_normal p c a (case_chosen p os) h.1.0 (case_chosen_normal p os h.1.1)

-- ---- binders

on_all_truths_normal : (p : Place) (f : List Bool → Outcome) → ((bs : List Bool) → IsNormalOutcome (f bs)) → (vs : List Value) → IsNormalOutcome (on_all_truths p f vs)
on_all_truths_normal p f r vs = by_truths (truths vs)
  where
    by_truths : (o : Option (List Bool)) → IsNormalOutcome (elim o [ None ↦ Wrong p | Some bs ↦ f bs ])
    by_truths None = tt
    by_truths (Some bs) = r bs

argument_normal : (vs : List Value) → Normals vs → Normal (argument vs)
argument_normal [] h = sequence_normal [] h
argument_normal (v ∷ []) h = h.0
argument_normal (v ∷ u ∷ vs) h = sequence_normal (v ∷ u ∷ vs) h

over_normal : (p : Place) (o : Op) (n : ℕ) (v : View) → NormalView v → (s t : State) → Good s → Good t →
    ((xss : List (List Value)) → AllByRecursion NormalSet xss → (vs : List Value) → Normals vs → IsNormalOutcome (bound_table p o (choices xss) vs)) →
    IsNormalOutcome (over_members p o n v s t)
over_normal p o n v r s t g h k =
    let body : List Value → Outcome = λ vs. (child p n (v.under vs)).value s t in
    strict_normal (outcomes (take n v.here) s t) (on_all_sets p (λ xss. strict (map body (choices xss)) (bound_table p o (choices xss))))
    (outcomes_normal (take n v.here) (taken NormalDenotation n v.here r.here) s t g h)
    (on_all_sets_normal p (λ xss. strict (map body (choices xss)) (bound_table p o (choices xss))) (λ xss x.
    strict_normal (map body (choices xss)) (bound_table p o (choices xss))
    (each_normal body (λ vs y. (child_normal p n (v.under vs) (r.under vs y)).value s t g h) (choices xss) (choices_normal xss (lists_of xss x)))
    (k xss x)))

kept_members : (cs : List (List Value)) (bs : List Bool) → NormalLists cs → Normals (kept cs bs)
kept_members [] bs h = tt
kept_members ([] ∷ cs) [] h = tt
kept_members ((v ∷ vs) ∷ cs) [] h = tt
kept_members ([] ∷ cs) (b ∷ bs) h = kept_members cs bs h.1
kept_members ((v ∷ vs) ∷ cs) (true ∷ bs) h = (h.0.0, kept_members cs bs h.1)
kept_members ((v ∷ vs) ∷ cs) (false ∷ bs) h = kept_members cs bs h.1

-- ---- EXCEPT

abbrev NormalUpdate : Update → Type 0
NormalUpdate u = (v : Value) → Normal v → IsNormalOutcome (u.1 v)

abbrev pub NormalReached : Reached → Type 0
NormalReached (At v) = Normal v
NormalReached Outside = Unit {0}
NormalReached NoFunction = Unit {0}

reached_normal : (o : Option Value) → IfSomes Normal o → NormalReached (reached_at o)
reached_normal None h = tt
reached_normal (Some v) h = h

step_normal : (l : Layer Value) (i : Value) → NormalLayer l → NormalReached (step_into l i)
step_normal (layer.Fun ps) i h = reached_normal (apply ps i) (apply_normal ps i (fun_pairs ps h))
step_normal l i h = tt

go_normal : (o : Reached) (f : Value → Reached) → NormalReached o → ((v : Value) → Normal v → NormalReached (f v)) → NormalReached (go_on o f)
go_normal (At v) f h r = r v h
go_normal Outside f h r = tt
go_normal NoFunction f h r = tt

pub at_path_normal : (is : List Value) (f : Value) → Normal f → NormalReached (at_path f is)
at_path_normal [] f h = h
at_path_normal (i ∷ is) f h =
    go_normal (step_into (out-Value f) i) (λ v. at_path v is) (step_normal (out-Value f) i (layer_normal f h)) (λ v k. at_path_normal is v k)

put_normal : (l : Layer Value) (i : Value) (change : Value → Value) (f : Value) → NormalLayer l → ((v : Value) → Normal v → Normal (change v)) → Normal f →
    Normal (put_at l i change f)
put_normal (layer.Fun ps) i change f h r k = by_place (apply ps i) (apply_normal ps i (fun_pairs ps h))
  where
    by_place : (o : Option Value) → IfSomes Normal o → Normal (elim o [ None ↦ f | Some v ↦ value.Fun (override_at ps i (change v)) ])
    by_place None l = k
    by_place (Some v) l = normal_override ps i (change v) h (r v l)
put_normal l i change f h r k = k

set_path_normal : (is : List Value) (new f : Value) → Normal new → Normal f → Normal (set_path is new f)
set_path_normal [] new f h k = h
set_path_normal (i ∷ is) new f h k =
    put_normal (out-Value f) i (set_path is new) f (layer_normal f k) (λ v l. set_path_normal is new v h l) k

updated_normal : (p : Place) (us : List Update) → AllByRecursion NormalUpdate us → (f : Value) → Normal f → IsNormalOutcome (updated p us f)
updated_normal p [] h f k = k
updated_normal p (u ∷ us) h f k = by_place (updated_normal p us h.1) (at_path f u.0) (at_path_normal u.0 f k)
  where
    by_place : ((g : Value) → Normal g → IsNormalOutcome (updated p us g)) → (o : Reached) → NormalReached o → IsNormalOutcome
        (elim o [ At old ↦ with_value (u.1 old) (λ new. updated p us (set_path u.0 new f)) | Outside ↦ updated p us f | NoFunction ↦ Wrong p ])
    by_place rest (At old) l =
        with_normal (u.1 old) (λ new. updated p us (set_path u.0 new f)) (h.0 old l) (λ new n. rest (set_path u.0 new f) (set_path_normal u.0 new f n k))
    by_place rest Outside l = rest f k
    by_place rest NoFunction l = tt

first_normal : (p : Place) (us : List Update) → AllByRecursion NormalUpdate us → (xs : List Value) → Normals xs → IsNormalOutcome (first_updated p us xs)
first_normal p us h [] k = tt
first_normal p us h (f ∷ xs) k = updated_normal p us h f k.0

indexes_normal : (ns : List ℕ) (ks : List Denotation) → NormalDenotations ks → NormalDenotations (all_indexes ns ks)
indexes_normal [] ks h = tt
indexes_normal (n ∷ ns) ks h =
    all_plus NormalDenotation (take n ks) (all_indexes ns (drop (suc n) ks)) (taken NormalDenotation n ks h)
    (indexes_normal ns (drop (suc n) ks) (dropped NormalDenotation (suc n) ks h))

updates_normal : (p : Place) (ns : List ℕ) (ks : List Denotation) (f : List Value → List Denotation) → ((vs : List Value) → Normals vs → NormalDenotations (f vs)) →
    (s t : State) → Good s → Good t → AllByRecursion NormalUpdate (updates p ns ks f s t)
updates_normal p [] ks f r s t g k = tt
updates_normal p (n ∷ ns) ks f r s t g k = (
  λ v h. (child_normal p n (f (v ∷ [])) (r (v ∷ []) (h, tt))).value s t g k,
  updates_normal p ns (drop (suc n) ks) (λ vs. drop (suc n) (f vs)) (λ vs h. dropped NormalDenotation (suc n) (f vs) (r vs h)) s t g k,
)

except_normal : (p : Place) (ns : List ℕ) (ks : List Denotation) → NormalDenotations ks → (f : List Value → List Denotation) →
    ((vs : List Value) → Normals vs → NormalDenotations (f vs)) → (s t : State) → Good s → Good t → IsNormalOutcome (except p ns ks f s t)
except_normal p ns [] h f r s t g k = tt
except_normal p ns (a ∷ ks) h f r s t g k =
    strict_normal (outcomes (a ∷ all_indexes ns ks) s t) (first_updated p (updates p ns ks (λ vs. drop 1 (f vs)) s t))
    (outcomes_normal (a ∷ all_indexes ns ks) (h.0, indexes_normal ns ks h.1) s t g k)
    (first_normal p (updates p ns ks (λ vs. drop 1 (f vs)) s t)
    (updates_normal p ns ks (λ vs. drop 1 (f vs)) (λ vs l. dropped NormalDenotation 1 (f vs) (r vs l)) s t g k))

-- ---- folds and memberships

folded_normal : (f : Value → Value → Outcome) → ((a b : Value) → Normal a → Normal b → IsNormalOutcome (f a b)) → (xs : List Value) (v : Value) →
    Normals xs → Normal v → IsNormalOutcome (folded f xs v)
folded_normal f r [] v h k = k
folded_normal f r (x ∷ xs) v h k = with_normal (f v x) (folded f xs) (r v x k h.0) (λ u l. folded_normal f r xs u h.1 l)

fold_over_normal : (p : Place) (f : Value → Value → Outcome) → ((a b : Value) → Normal a → Normal b → IsNormalOutcome (f a b)) → (vs : List Value) →
    Normals vs → IsNormalOutcome (fold_over p f vs)
fold_over_normal p f r (v ∷ q ∷ []) h = by_layer (out-Value q) (layer_normal q h.1.0)
  where
    by_layer : (l : Layer Value) → NormalLayer l →
        IsNormalOutcome (elim l as (λ _. Outcome) [ layer.Fun ps ↦ on_items p (λ xs. folded f xs v) (items_of ps) | _ ↦ Wrong p ])
    by_layer (layer.Fun ps) k = on_items_normal p (λ xs. folded f xs v) (λ xs l. folded_normal f r xs v l h.0) (items_of ps) (items_of_normal ps k)
    by_layer l k = tt
fold_over_normal p f r vs h = tt

told : (p : Place) (f : Fault) → IsNormalOutcome (elim f [ NoFault ↦ Wrong p | IsWrong q ↦ Wrong q | IsBig q ↦ Big q ])
told p NoFault = tt
told p (IsWrong q) = tt
told p (IsBig q) = tt

in_form_normal : (p : Place) (test : Value → SetForm → Outcome) → ((v : Value) (f : SetForm) → IsNormalOutcome (test v f)) → (os : List Outcome) (fs : List Formed) →
    IsNormalOutcome (in_form p test os fs)
in_form_normal p test r (Val v ∷ os) (d ∷ Made f ∷ []) = by_kind (is_set_form f)
  where
    by_kind : (b : Bool) → IsNormalOutcome (if b then test v f else Wrong p)
    by_kind true = r v f
    by_kind false = tt
in_form_normal p test r (Val v ∷ os) (d ∷ Broken f ∷ []) = told p (join_faults NoFault f)
in_form_normal p test r (Wrong q ∷ os) (d ∷ f ∷ []) = told p (join_faults (IsWrong q) (form_fault f))
in_form_normal p test r (Big q ∷ os) (d ∷ f ∷ []) = told p (join_faults (IsBig q) (form_fault f))
in_form_normal p test r os fs = tt

all_in_normal : (p : Place) (v : Value) (f : SetForm) → IsNormalOutcome (all_in p v f)
all_in_normal p v f = by_items (set_items (out-Value v))
  where
    by_items : (o : Option (List Value)) → IsNormalOutcome (elim o [ None ↦ Wrong p | Some xs ↦ yes_no (list_all (belongs f) xs) ])
    by_items None = tt
    by_items (Some xs) = yes_normal (list_all (belongs f) xs)

-- ---- values

found_normal : (p : Place) (o : Option Value) → IfSomes Normal o → IsNormalOutcome (value_found p o)
found_normal p None h = tt
found_normal p (Some v) h = h

got_normal : (xs : List Value) (i : ℕ) → Normals xs → IfSomes Normal (slice_get xs i)
got_normal [] i h = tt
got_normal (x ∷ xs) zero h = h.0
got_normal (x ∷ xs) (suc i) h = got_normal xs i h.1

read_normal : (p : Place) (i : ℕ) (primed : Bool) (s t : State) → Good s → Good t → IsNormalOutcome (read p i (if primed then t else s))
read_normal p i true s t g h = found_normal p (slice_get t.vals i) (got_normal t.vals i h)
read_normal p i false s t g h = found_normal p (slice_get s.vals i) (got_normal s.vals i g)

pub value_normal : (w : Width) (p : Place) (o : Op) (n : ℕ) (v : View) → NormalView v → (s t : State) → Good s → Good t →
    IsNormalOutcome (value_of w p o n v s t)
value_normal w p (op.Bool b) n v r s t g h = yes_normal b
value_normal w p (op.Int i) n v r s t g h = number_normal w p i
value_normal w p (op.Str a) n v r s t g h = text_normal a
value_normal w p op.And n v r s t g h = conjoined_normal p (outcomes v.here s t)
value_normal w p op.Or n v r s t g h = disjoined_normal p (outcomes v.here s t)
value_normal w p op.Implies n v r s t g h = implied_normal p (outcomes v.here s t)
value_normal w p op.If n v r s t g h = if_chosen_normal p (outcomes v.here s t) (outcomes_normal v.here r.here s t g h)
value_normal w p (op.Case other) n v r s t g h = case_chosen_normal p (outcomes v.here s t) (outcomes_normal v.here r.here s t g h)
value_normal w p op.In n v r s t g h =
    in_form_normal p (λ v f. yes_no (belongs f v)) (λ v f. yes_normal (belongs f v)) (outcomes v.here s t) (forms v.here s t)
value_normal w p op.NotIn n v r s t g h =
    in_form_normal p (λ v f. yes_no (not (belongs f v))) (λ v f. yes_normal (not (belongs f v))) (outcomes v.here s t) (forms v.here s t)
value_normal w p op.SubsetEq n v r s t g h = in_form_normal p (all_in p) (all_in_normal p) (outcomes v.here s t) (forms v.here s t)
value_normal w p op.Exists n v r s t g h =
    over_normal p op.Exists n v r s t g h (λ xss x vs y. on_all_truths_normal p (λ bs. yes_no (list_any (λ b. b) bs)) (λ bs. yes_normal (list_any (λ b. b) bs)) vs)
value_normal w p op.Forall n v r s t g h =
    over_normal p op.Forall n v r s t g h (λ xss x vs y. on_all_truths_normal p (λ bs. yes_no (list_all (λ b. b) bs)) (λ bs. yes_normal (list_all (λ b. b) bs)) vs)
value_normal w p op.Filter n v r s t g h =
    over_normal p op.Filter n v r s t g h (λ xss x vs y. on_all_truths_normal p (λ bs. Val (the_set (kept (choices xss) bs)))
    (λ bs. the_set_normal (kept (choices xss) bs) (kept_members (choices xss) bs (choices_normal xss (lists_of xss x)))) vs)
value_normal w p op.MapTo n v r s t g h = over_normal p op.MapTo n v r s t g h (λ xss x vs y. the_set_normal vs y)
value_normal w p op.Lambda n v r s t g h =
    over_normal p op.Lambda n v r s t g h (λ xss x vs y. the_function_normal (zip (map argument (choices xss)) vs)
    (zip_pairs (map argument (choices xss)) vs (all_mapped Normals Normal argument argument_normal (choices xss) (choices_normal xss (lists_of xss x))) y))
value_normal w p (op.Except ns) n v r s t g h = except_normal p ns v.here r.here v.under r.under s t g h
value_normal w p op.Fold n v r s t g h =
    let f : Value → Value → Outcome = λ a b. (child p 0 (v.under (a ∷ b ∷ []))).value s t in
    strict_normal (outcomes (drop 1 v.here) s t) (fold_over p f) (outcomes_normal (drop 1 v.here) (dropped NormalDenotation 1 v.here r.here) s t g h)
    (fold_over_normal p f (λ a b x y. (child_normal p 0 (v.under (a ∷ b ∷ [])) (r.under (a ∷ b ∷ []) (x, (y, tt)))).value s t g h))
value_normal w p (op.Name i primed) n v r s t g h = read_normal p i primed s t g h
value_normal w p (op.Bound x) n v r s t g h = found_normal p v.held r.held
value_normal w p op.Prime n v r s t g h = (child_normal p 0 v.here r.here).value t t h h
value_normal w p op.Unchanged n v r s t g h = (child_normal p 0 v.here r.here).unchanged s t g h
value_normal w p op.Boxed n v r s t g h = disjoined_normal p ((child p 0 v.here).value s t ∷ (child p 1 v.here).unchanged s t ∷ [])
value_normal w p op.Angled n v r s t g h = conjoined_normal p ((child p 0 v.here).value s t ∷ changed p ((child p 1 v.here).unchanged s t) ∷ [])
value_normal w p (op.Noted x) n v r s t g h = (child_normal p 0 v.here r.here).value s t g h
value_normal w p o n v r s t g h = strict_normal (outcomes v.here s t) (table w p o) (outcomes_normal v.here r.here s t g h) (table_normal w p o)

kept_normal : (p : Place) (a b : Outcome) → IsNormalOutcome a → IsNormalOutcome b → IsNormalOutcome (kept_value p a b)
kept_normal p a b h k = strict_normal (b ∷ a ∷ []) (table None p op.Eq) (k, (h, tt)) (table_normal None p op.Eq)

pub keeps_normal : (w : Width) (p : Place) (o : Op) (n : ℕ) (v : View) → NormalView v → (s t : State) → Good s → Good t →
    IsNormalOutcome (unchanged_of w p o n v s t)
keeps_normal w p op.Tuple n v r s t g h = conjoined_normal p (map (λ (a : Denotation). a.unchanged s t) v.here)
keeps_normal w p (op.Noted x) n v r s t g h = (child_normal p 0 v.here r.here).unchanged s t g h
keeps_normal w p op.Prime n v r s t g h = (child_normal p 0 v.here r.here).unchanged t t h h
keeps_normal w p o n v r s t g h =
    kept_normal p (value_of w p o n v s t) (value_of w p o n v t t) (value_normal w p o n v r s t g h) (value_normal w p o n v r t t h h)

meant_normal : (o : Option Denotation) (a : Denotation) → IfSomes NormalDenotation o → NormalDenotation a → NormalDenotation (meant o a)
meant_normal None a h k = k
meant_normal (Some b) a h k = h

pub denotation_normal : (w : Width) (p : Place) (o : Op) (n : ℕ) (v : View) → NormalView v → NormalDenotation (denotation_of w p o n v)
denotation_normal w p o n v r =
    meant_normal v.whole _ r.whole (record { value = value_normal w p o n v r; unchanged = keeps_normal w p o n v r })
