-- What a node gives depends on its children only through what is seen of them.
use Rattle.std.proofs.Common.{◌≡◌, ℕ, zero, suc, Bool, ◌||◌, IsTrue, List, [], ◌∷◌, ◌++◌, map, not, take, drop, refl, ap, ap₂, ◌∙◌, sym, Option, None, if◌then◌else◌}
use Rattle.tla_values.specs.declared.value.Value.{Value}
use Rattle.tla_meaning.specs.declared.job.State.{State}
use Rattle.tla_meaning.specs.declared.op.Op.{Op}
use Rattle.tla_meaning.specs.declared.op.Op.TheVariants as op
use Rattle.tla_meaning.specs.declared.outcome.Outcome.{Outcome}
use Rattle.tla_meaning.specs.declared.place.Place.{Place}
use Rattle.tla_meaning.specs.Forms.{Formed, belongs}
use Rattle.tla_meaning.specs.Numbers.{Width}
use Rattle.tla_meaning.specs.Operators.{table, yes_no, on_all_sets}
use Rattle.tla_meaning.specs.Outcomes.{strict, values}
use Rattle.tla_meaning.specs.declared.actions.Assignable.{Assignable}
use Rattle.tla_meaning.specs.declared.actions.Assignable.TheVariants.{Every}
use Rattle.tla_meaning.specs.declared.actions.Effect.{Effect}
use Rattle.tla_meaning.specs.declared.forms.SetForm.TheVariants as form
use Rattle.tla_meaning.specs.Scopes.{Denotation}
use Rattle.tla_meaning.specs.Shapes.{choices}
use Rattle.tla_meaning.specs.Meaning.{outcomes, forms, child, View, value_of, form_of, over_members, bound_table, except, all_indexes, updates, Update, first_updated, fold_over, conjoined, disjoined, implied, if_chosen, case_chosen, in_form, all_in, form_of_one, form_of_all, function_form, plain}
use Rattle.tla_meaning.specs.Actions.{effects, effects_and, effects_or, effect_of, if_effect, case_effect, exists_effect, any_mentions, act_of, mentions_of, denotation_of}
use Rattle.op_inliner.specs.Primes.{plain_op}
use Rattle.tla_meaning.proofs.Views.{false≢true}

-- what is seen of a denotation between two states, where these names count as assigned
pub record Seen : Type 0 where
  pub value : Outcome
  pub form : Formed
  pub act : Effect
  pub mentions : Bool

abbrev pub seen : State → State → Assignable → Denotation → Seen
seen s t m a = record { value = a.value s t; form = a.form s t; act = a.act m s t; mentions = a.mentions m }

-- a denotation of which this is seen everywhere
abbrev pub shown : Seen → Denotation
shown x = record {
  value = λ s t. x.value;
  form = λ s t. x.form;
  act = λ m s t. x.act;
  unchanged = λ s t. x.value;
  mentions = λ m. x.mentions;
}

abbrev pub all_seen : State → State → Assignable → List Denotation → List Seen
all_seen s t m as' = map (seen s t m) as'

abbrev pub all_shown : List Seen → List Denotation
all_shown xs = map shown xs

abbrev pub nowhere : State
nowhere = record { vals = [] }

-- the view in which only this is seen
abbrev pub shown_view : State → State → Assignable → View → View
shown_view s t m v = record {
  here = all_shown (all_seen s t m v.here);
  under = λ vs. all_shown (all_seen s t m (v.under vs));
  held = v.held;
  whole = None;
}

outcomes_seen : (s t : State) (m : Assignable) (as' : List Denotation) → outcomes as' s t ≡ outcomes (all_shown (all_seen s t m as')) nowhere nowhere
outcomes_seen s t m [] = refl
outcomes_seen s t m (a ∷ as') = ap (λ (os : List Outcome). a.value s t ∷ os) (outcomes_seen s t m as')

forms_seen : (s t : State) (m : Assignable) (as' : List Denotation) → forms as' s t ≡ forms (all_shown (all_seen s t m as')) nowhere nowhere
forms_seen s t m [] = refl
forms_seen s t m (a ∷ as') = ap (λ (os : List Formed). a.form s t ∷ os) (forms_seen s t m as')

effects_seen : (s t : State) (m : Assignable) (as' : List Denotation) → effects m as' s t ≡ effects Every (all_shown (all_seen s t m as')) nowhere nowhere
effects_seen s t m [] = refl
effects_seen s t m (a ∷ as') = ap (λ (os : List Effect). a.act m s t ∷ os) (effects_seen s t m as')

any_seen : (s t : State) (m : Assignable) (as' : List Denotation) → any_mentions m as' ≡ any_mentions Every (all_shown (all_seen s t m as'))
any_seen s t m [] = refl
any_seen s t m (a ∷ as') = ap (λ b. a.mentions m || b) (any_seen s t m as')

child_value : (p : Place) (n : ℕ) (s t : State) (m : Assignable) (as' : List Denotation) →
    (child p n as').value s t ≡ (child p n (all_shown (all_seen s t m as'))).value nowhere nowhere
child_value p n s t m [] = refl
child_value p zero s t m (a ∷ as') = refl
child_value p (suc n) s t m (a ∷ as') = child_value p n s t m as'

child_form : (p : Place) (n : ℕ) (s t : State) (m : Assignable) (as' : List Denotation) →
    (child p n as').form s t ≡ (child p n (all_shown (all_seen s t m as'))).form nowhere nowhere
child_form p n s t m [] = refl
child_form p zero s t m (a ∷ as') = refl
child_form p (suc n) s t m (a ∷ as') = child_form p n s t m as'

child_act : (p : Place) (n : ℕ) (s t : State) (m : Assignable) (as' : List Denotation) →
    (child p n as').act m s t ≡ (child p n (all_shown (all_seen s t m as'))).act Every nowhere nowhere
child_act p n s t m [] = refl
child_act p zero s t m (a ∷ as') = refl
child_act p (suc n) s t m (a ∷ as') = child_act p n s t m as'

take_seen : (n : ℕ) (s t : State) (m : Assignable) (as' : List Denotation) → all_shown (all_seen s t m (take n as')) ≡ take n (all_shown (all_seen s t m as'))
take_seen zero s t m as' = refl
take_seen (suc n) s t m [] = refl
take_seen (suc n) s t m (a ∷ as') = ap (λ (xs : List Denotation). shown (seen s t m a) ∷ xs) (take_seen n s t m as')

drop_seen : (n : ℕ) (s t : State) (m : Assignable) (as' : List Denotation) → all_shown (all_seen s t m (drop n as')) ≡ drop n (all_shown (all_seen s t m as'))
drop_seen zero s t m as' = refl
drop_seen (suc n) s t m [] = refl
drop_seen (suc n) s t m (a ∷ as') = drop_seen n s t m as'

taken_outcomes : (n : ℕ) (s t : State) (m : Assignable) (as' : List Denotation) →
    outcomes (take n as') s t ≡ outcomes (take n (all_shown (all_seen s t m as'))) nowhere nowhere
taken_outcomes n s t m as' = outcomes_seen s t m (take n as') ∙ ap (λ (xs : List Denotation). outcomes xs nowhere nowhere) (take_seen n s t m as')

dropped_outcomes : (n : ℕ) (s t : State) (m : Assignable) (as' : List Denotation) →
    outcomes (drop n as') s t ≡ outcomes (drop n (all_shown (all_seen s t m as'))) nowhere nowhere
dropped_outcomes n s t m as' = outcomes_seen s t m (drop n as') ∙ ap (λ (xs : List Denotation). outcomes xs nowhere nowhere) (drop_seen n s t m as')

members_seen : (p : Place) (o : Op) (n : ℕ) (v : View) (s t : State) (m : Assignable) →
    over_members p o n v s t ≡ over_members p o n (shown_view s t m v) nowhere nowhere
members_seen p o n v s t m =
    ap₂ (λ (os : List Outcome) (body : List Value → Outcome). strict os (on_all_sets p (λ xss. strict (map body (choices xss)) (bound_table p o (choices xss)))))
    (taken_outcomes n s t m v.here) (λ i. λ vs. child_value p n s t m (v.under vs) i)

-- ---- EXCEPT

append_seen : (s t : State) (m : Assignable) (as' bs : List Denotation) →
    all_shown (all_seen s t m (as' ++ bs)) ≡ all_shown (all_seen s t m as') ++ all_shown (all_seen s t m bs)
append_seen s t m [] bs = refl
append_seen s t m (a ∷ as') bs = ap (λ (xs : List Denotation). shown (seen s t m a) ∷ xs) (append_seen s t m as' bs)

indexes_seen : (ns : List ℕ) (s t : State) (m : Assignable) (ks : List Denotation) →
    all_shown (all_seen s t m (all_indexes ns ks)) ≡ all_indexes ns (all_shown (all_seen s t m ks))
indexes_seen [] s t m ks = refl
indexes_seen (n ∷ ns) s t m ks =
    append_seen s t m (take n ks) (all_indexes ns (drop (suc n) ks))
    ∙ ap₂ (λ (xs ys : List Denotation). xs ++ ys) (take_seen n s t m ks)
    (indexes_seen ns s t m (drop (suc n) ks) ∙ ap (all_indexes ns) (drop_seen (suc n) s t m ks))

updates_seen : (p : Place) (ns : List ℕ) (ks : List Denotation) (under : List Value → List Denotation) (s t : State) (m : Assignable) →
    updates p ns ks under s t ≡ updates p ns (all_shown (all_seen s t m ks)) (λ vs. all_shown (all_seen s t m (under vs))) nowhere nowhere
updates_seen p [] ks under s t m = refl
updates_seen p (n ∷ ns) ks under s t m =
    ap₂ (λ (u : Update) (us : List Update). u ∷ us)
    (λ i. (values (taken_outcomes n s t m ks i), λ old. child_value p n s t m (under (old ∷ [])) i))
    (updates_seen p ns (drop (suc n) ks) (λ vs. drop (suc n) (under vs)) s t m
    ∙ ap₂ (λ (xs : List Denotation) (g : List Value → List Denotation). updates p ns xs g nowhere nowhere)
    (drop_seen (suc n) s t m ks) (λ i. λ vs. drop_seen (suc n) s t m (under vs) i))

except_seen : (p : Place) (ns : List ℕ) (ks : List Denotation) (under : List Value → List Denotation) (s t : State) (m : Assignable) →
    except p ns ks under s t ≡ except p ns (all_shown (all_seen s t m ks)) (λ vs. all_shown (all_seen s t m (under vs))) nowhere nowhere
except_seen p ns [] under s t m = refl
except_seen p ns (k ∷ ks) under s t m =
    ap₂ (λ (os : List Outcome) (us : List Update). strict os (first_updated p us))
    (ap (λ (os : List Outcome). k.value s t ∷ os)
    (outcomes_seen s t m (all_indexes ns ks) ∙ ap (λ (xs : List Denotation). outcomes xs nowhere nowhere) (indexes_seen ns s t m ks)))
    (updates_seen p ns ks (λ vs. drop 1 (under vs)) s t m
    ∙ ap (λ (g : List Value → List Denotation). updates p ns (all_shown (all_seen s t m ks)) g nowhere nowhere) (λ i. λ vs. drop_seen 1 s t m (under vs) i))

-- ---- the value, the form and the effect of a node

value_seen : (w : Width) (p : Place) (o : Op) (n : ℕ) (v : View) (s t : State) (m : Assignable) → IsTrue (plain_op o) →
    value_of w p o n v s t ≡ value_of w p o n (shown_view s t m v) nowhere nowhere
value_seen w p (op.Bool b) n v s t m h = refl
value_seen w p (op.Int i) n v s t m h = refl
value_seen w p (op.Str a) n v s t m h = refl
value_seen w p op.And n v s t m h = ap (conjoined p) (outcomes_seen s t m v.here)
value_seen w p op.Or n v s t m h = ap (disjoined p) (outcomes_seen s t m v.here)
value_seen w p op.Implies n v s t m h = ap (implied p) (outcomes_seen s t m v.here)
value_seen w p op.If n v s t m h = ap (if_chosen p) (outcomes_seen s t m v.here)
value_seen w p (op.Case other) n v s t m h = ap (case_chosen p) (outcomes_seen s t m v.here)
value_seen w p op.In n v s t m h = ap₂ (in_form p (λ v f. yes_no (belongs f v))) (outcomes_seen s t m v.here) (forms_seen s t m v.here)
value_seen w p op.NotIn n v s t m h =
    ap₂ (in_form p (λ v f. yes_no (not (belongs f v)))) (outcomes_seen s t m v.here) (forms_seen s t m v.here)
value_seen w p op.SubsetEq n v s t m h = ap₂ (in_form p (all_in p)) (outcomes_seen s t m v.here) (forms_seen s t m v.here)
value_seen w p op.Exists n v s t m h = members_seen p op.Exists n v s t m
value_seen w p op.Forall n v s t m h = members_seen p op.Forall n v s t m
value_seen w p op.Filter n v s t m h = members_seen p op.Filter n v s t m
value_seen w p op.MapTo n v s t m h = members_seen p op.MapTo n v s t m
value_seen w p op.Lambda n v s t m h = members_seen p op.Lambda n v s t m
value_seen w p (op.Except ns) n v s t m h = except_seen p ns v.here v.under s t m
value_seen w p op.Fold n v s t m h =
    ap₂ (λ (os : List Outcome) (g : Value → Value → Outcome). strict os (fold_over p g))
    (dropped_outcomes 1 s t m v.here) (λ i. λ a b. child_value p 0 s t m (v.under (a ∷ b ∷ [])) i)
value_seen w p (op.Bound x) n v s t m h = refl
value_seen w p (op.Noted x) n v s t m h = child_value p 0 s t m v.here
value_seen w p (op.Name i b) n v s t m h = absurd (false≢true h)
value_seen w p op.Prime n v s t m h = absurd (false≢true h)
value_seen w p op.Unchanged n v s t m h = absurd (false≢true h)
value_seen w p op.Boxed n v s t m h = absurd (false≢true h)
value_seen w p op.Angled n v s t m h = absurd (false≢true h)
value_seen w p o n v s t m h = ap (λ (os : List Outcome). strict os (table w p o)) (outcomes_seen s t m v.here)

form_seen : (w : Width) (p : Place) (o : Op) (n : ℕ) (v : View) (s t : State) (m : Assignable) → IsTrue (plain_op o) →
    form_of w p o n v s t ≡ form_of w p o n (shown_view s t m v) nowhere nowhere
form_seen w p op.IntSet n v s t m h = refl
form_seen w p op.NatSet n v s t m h = refl
form_seen w p op.StringSet n v s t m h = refl
form_seen w p op.SeqSet n v s t m h = ap (form_of_one p form.Sequences) (forms_seen s t m v.here)
form_seen w p op.Powerset n v s t m h = ap (form_of_one p form.Subsets) (forms_seen s t m v.here)
form_seen w p op.FunSet n v s t m h = ap₂ (function_form p) (outcomes_seen s t m v.here) (forms_seen s t m v.here)
form_seen w p (op.RecSet names) n v s t m h = ap (form_of_all p (form.Records names)) (forms_seen s t m v.here)
form_seen w p op.Product n v s t m h = ap (form_of_all p form.Tuples) (forms_seen s t m v.here)
form_seen w p (op.Noted x) n v s t m h = child_form p 0 s t m v.here
form_seen w p op.Prime n v s t m h = absurd (false≢true h)
form_seen w p o n v s t m h = ap plain (value_seen w p o n v s t m h)

abbrev chosen : Bool → Effect → Effect → Effect
chosen b e g = if b then e else g

act_seen : (w : Width) (p : Place) (o : Op) (n : ℕ) (v : View) (s t : State) (m : Assignable) → IsTrue (plain_op o) →
    act_of w p o n v m s t ≡ act_of w p o n (shown_view s t m v) Every nowhere nowhere
act_seen w p op.And n v s t m h = ap effects_and (effects_seen s t m v.here)
act_seen w p op.Or n v s t m h = λ i.
    chosen (any_seen s t m v.here i) (effects_or (effects_seen s t m v.here i)) (effect_of (value_seen w p op.Or n v s t m h i))
act_seen w p op.If n v s t m h = λ i.
    chosen (any_seen s t m v.here i) (if_effect p (outcomes_seen s t m v.here i) (effects_seen s t m v.here i))
    (effect_of (value_seen w p op.If n v s t m h i))
act_seen w p (op.Case other) n v s t m h = λ i.
    chosen (any_seen s t m v.here i) (case_effect p (outcomes_seen s t m v.here i) (effects_seen s t m v.here i))
    (effect_of (value_seen w p (op.Case other) n v s t m h i))
act_seen w p op.Exists n v s t m h = λ i.
    exists_effect p (taken_outcomes n s t m v.here i) (λ vs. child_act p n s t m (v.under vs) i)
act_seen w p (op.Noted x) n v s t m h = child_act p 0 s t m v.here
act_seen w p op.Prime n v s t m h = absurd (false≢true h)
act_seen w p op.Boxed n v s t m h = absurd (false≢true h)
act_seen w p op.Angled n v s t m h = absurd (false≢true h)
act_seen w p o n v s t m h = ap effect_of (value_seen w p o n v s t m h)

mentions_seen : (p : Place) (o : Op) (n : ℕ) (v : View) (s t : State) (m : Assignable) → IsTrue (plain_op o) →
    mentions_of p o n v m ≡ mentions_of p o n (shown_view s t m v) Every
mentions_seen p (op.Name i b) n v s t m h = absurd (false≢true h)
mentions_seen p op.Prime n v s t m h = absurd (false≢true h)
mentions_seen p op.Unchanged n v s t m h = absurd (false≢true h)
mentions_seen p op.Boxed n v s t m h = absurd (false≢true h)
mentions_seen p op.Angled n v s t m h = absurd (false≢true h)
mentions_seen p o n v s t m h = ap₂ (λ b c. b || c) (any_seen s t m v.here) (any_seen s t m (v.under []))

-- a view of a node that nothing stands for as a whole
abbrev pub bare_view : List Denotation → (List Value → List Denotation) → Option Value → View
bare_view here under held = record { here = here; under = under; held = held; whole = None }

through : (w : Width) (p : Place) (o : Op) (n : ℕ) (here : List Denotation) (under : List Value → List Denotation) (held : Option Value)
    (s t : State) (m : Assignable) → IsTrue (plain_op o) →
    seen s t m (denotation_of w p o n (bare_view here under held))
    ≡ seen nowhere nowhere Every (denotation_of w p o n (bare_view (all_shown (all_seen s t m here)) (λ vs. all_shown (all_seen s t m (under vs))) held))
through w p o n here under held s t m h = λ i. record {
  value = value_seen w p o n (bare_view here under held) s t m h i;
  form = form_seen w p o n (bare_view here under held) s t m h i;
  act = act_seen w p o n (bare_view here under held) s t m h i;
  mentions = mentions_seen p o n (bare_view here under held) s t m h i;
}

-- of two nodes with one operator the same is seen where the same is seen of their children
pub node_seen : (w : Width) (p : Place) (o : Op) (n : ℕ) (here here2 : List Denotation) (under under2 : List Value → List Denotation) (held held2 : Option Value)
    (s t s2 t2 : State) (m m2 : Assignable) → IsTrue (plain_op o) →
    all_seen s t m here ≡ all_seen s2 t2 m2 here2 → ((vs : List Value) → all_seen s t m (under vs) ≡ all_seen s2 t2 m2 (under2 vs)) → held ≡ held2 →
    seen s t m (denotation_of w p o n (bare_view here under held)) ≡ seen s2 t2 m2 (denotation_of w p o n (bare_view here2 under2 held2))
node_seen w p o n here here2 under under2 held held2 s t s2 t2 m m2 h a b c =
    through w p o n here under held s t m h
    ∙ (λ i. seen nowhere nowhere Every (denotation_of w p o n (bare_view (all_shown (a i)) (λ vs. all_shown (b vs i)) (c i))))
    ∙ sym (through w p o n here2 under2 held2 s2 t2 m2 h)
