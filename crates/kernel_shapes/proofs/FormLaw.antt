-- The law of forms: what belongs to a finite form fits the shape of its members.
use Rattle.std.proofs.Common.{◌≡◌, ℕ, ◌≤◌, Bool, true, false, ◌&&◌, ◌||◌, IsTrue, List, [], ◌∷◌, map, length, Option, Some, None, option_map, refl, sym, ◌∙◌, ap, ap₂, subst, if◌then◌else◌}
use Rattle.std.specs.Prelude.{option_and_then}
use Rattle.std.specs.List.{AllByRecursion, list_all}
use Rattle.tla_values.specs.Order.{Layer, same_value}
use Rattle.tla_values.specs.Sets.{Normal, member, set_of}
use Rattle.tla_values.specs.declared.value.Value.{Value}
use Rattle.tla_values.specs.declared.value.Value.TheVariants as value
use Rattle.tla_values.proofs.Extensional.{same_equal}
use Rattle.tla_meaning.specs.declared.expr.Expr.{Expr, roll-Expr}
use Rattle.tla_meaning.specs.declared.expr.Expr.TheOpen.{Expr-F}
use Rattle.tla_meaning.specs.declared.expr.Expr.TheFolds.{fold-roll-Expr}
use Rattle.tla_meaning.specs.declared.forms.SetForm.{SetForm}
use Rattle.tla_meaning.specs.declared.forms.SetForm.TheVariants as form
use Rattle.tla_meaning.specs.declared.job.State.{State}
use Rattle.tla_meaning.specs.declared.op.Op.{Op}
use Rattle.tla_meaning.specs.declared.op.Op.TheVariants as op
use Rattle.tla_meaning.specs.declared.place.Place.{Place}
use Rattle.tla_meaning.specs.declared.outcome.Fault.{Fault}
use Rattle.tla_meaning.specs.declared.outcome.Fault.TheVariants.{NoFault, IsWrong, IsBig}
use Rattle.tla_meaning.specs.declared.outcome.Outcome.{Outcome}
use Rattle.tla_meaning.specs.declared.outcome.Outcome.TheVariants.{Val, Wrong, Big}
use Rattle.tla_meaning.specs.Outcomes.{IsNormalOutcome, join_faults, fault_of, strict}
use Rattle.tla_meaning.specs.Numbers.{Width}
use Rattle.tla_meaning.specs.Expanded.{is_expanded_op, is_expanded}
use Rattle.tla_meaning.specs.Forms.{Formed, Made, Broken, is_set_form, all_set_forms, form_fault, form_faults, made, fault_or_form, belongs}
use Rattle.tla_meaning.specs.Operators.{table, on_all_sets}
use Rattle.tla_meaning.specs.Scopes.{Scope, Denotation, absent}
use Rattle.tla_meaning.specs.Shapes.{set_items, all_set_items, records, tuples, record_of, sequence, choices}
use Rattle.tla_meaning.specs.Meaning.{Meaning, View, outcomes, forms, child, role, outer, view, plain, value_of, form_of, form_of_one, form_of_all, functions_from, function_form, layer_of}
use Rattle.tla_meaning.specs.Actions.{meaning, denotation_of}
use Rattle.tla_meaning.proofs.MeaningLemmas.{meaning-roll}
use Rattle.tla_meaning.proofs.NormalLaw.{NormalDef, NormalScope, meaning_normal}
use Rattle.tla_meaning.proofs.Views.{and_left, and_right, false≢true}
use Rattle.kernel_shapes.specs.FiniteForms.{is_finite_at, is_finite_form}
use Rattle.kernel_shapes.proofs.FormMembers.{HasAll, HaveAll, records_have, tuples_have, MembersOf, HasMembers, same_made, broken, plain_members, subset_members, function_members}
use Rattle.kernel_trees.specs.TypeKinds.{Kind}
use Rattle.kernel_shapes.specs.Shape.{Shape, inside}
use Rattle.kernel_shapes.specs.Fits.{FitsLayer, Fits}
use Rattle.kernel_shapes.specs.Laws.{FormFitsItsShape, Ready}
use Rattle.kernel_shapes.specs.Sized.{Extent}
use Rattle.kernel_shapes.specs.Trees.{marks_of, tree_sized, shape_of_tree}
use Rattle.kernel_shapes.proofs.FitLemmas.{AllFit, IsSet, is_set, members_of}
use Rattle.kernel_shapes.proofs.Law.{each_value_fits}
use Rattle.kernel_shapes.proofs.TreeLemmas.{Each, by_nodes}

-- ---- several forms

abbrev Values : List Outcome → List (List Value) → Type 0
Values [] [] = Unit {0}
Values (o ∷ os) (xs ∷ xss) = (o ≡ Val (value.Set xs)) × Values os xss
Values [] (xs ∷ xss) = ⊥
Values (o ∷ os) [] = ⊥

abbrev sets : List (List Value) → List Value
sets xss = map (λ xs. value.Set xs) xss

all_sets_there : (xss : List (List Value)) → all_set_items (sets xss) ≡ Some xss
all_sets_there [] = refl
all_sets_there (xs ∷ xss) =
    ap₂ (λ (x : Layer Value) (o : Option (List (List Value))). option_and_then (λ ys. option_map (λ yss. ys ∷ yss) o) (set_items x)) (value.outs-Set xs) (all_sets_there xss)

strict_values : (os : List Outcome) (xss : List (List Value)) (f : List Value → Outcome) → Values os xss → strict os f ≡ f (sets xss)
strict_values [] [] f h = refl
strict_values [] (xs ∷ xss) f h = absurd h
strict_values (o ∷ os) [] f h = absurd h
strict_values (o ∷ os) (xs ∷ xss) f h =
    ap (λ (q : Outcome). strict (q ∷ os) f) h.0 ∙ strict_values os xss (λ vs. f (value.Set xs ∷ vs)) h.1

on_sets_there : (p : Place) (f : List (List Value) → Outcome) (xss : List (List Value)) → on_all_sets p f (sets xss) ≡ f xss
on_sets_there p f xss = ap (λ (o : Option (List (List Value))). elim o [ None ↦ Wrong p | Some yss ↦ f yss ]) (all_sets_there xss)

-- a form that is broken has a fault
abbrev pub Honest : Formed → Type 0
Honest (Made f) = Unit {0}
Honest (Broken NoFault) = ⊥
Honest (Broken (IsWrong p)) = Unit {0}
Honest (Broken (IsBig p)) = Unit {0}

-- what is said of a node's children: their forms are honest, and finite ones have their members
abbrev pub Forming : State → State → List Bool → List Denotation → Type 0
Forming s t [] [] = Unit {0}
Forming s t (b ∷ bs) (m ∷ ms) = (Honest (m.form s t) × (IsTrue b → HasMembers s t m)) × Forming s t bs ms
Forming s t [] (m ∷ ms) = ⊥
Forming s t (b ∷ bs) [] = ⊥

-- each of several finite forms without a fault
several : (s t : State) (bs : List Bool) (ms : List Denotation) → IsTrue (list_all (λ b. b) bs) → Forming s t bs ms → form_faults (forms ms s t) ≡ NoFault →
    IsTrue (all_set_forms (made (forms ms s t))) → (xss : List (List Value)) × Values (outcomes ms s t) xss × HaveAll (made (forms ms s t)) xss
several s t [] [] e h f k = ([], tt, tt)
several s t [] (m ∷ ms) e h f k = absurd h
several s t (b ∷ bs) [] e h f k = absurd h
several s t (b ∷ bs) (m ∷ ms) e h f k =
    by (m.form s t) h.0.0 (h.0.1 (and_left b (list_all (λ c. c) bs) e)) f k (λ g l. several s t bs ms (and_right b (list_all (λ c. c) bs) e) h.1 g l)
  where
    Rest : Type 0
    Rest = (xss : List (List Value)) × Values (outcomes ms s t) xss × HaveAll (made (forms ms s t)) xss

    by : (d : Formed) → Honest d → MembersOf (m.value s t) d → join_faults (form_fault d) (form_faults (forms ms s t)) ≡ NoFault → IsTrue (all_set_forms (made (d ∷ forms ms s t))) →
        (form_faults (forms ms s t) ≡ NoFault → IsTrue (all_set_forms (made (forms ms s t))) → Rest) →
        (xss : List (List Value)) × Values (m.value s t ∷ outcomes ms s t) xss × HaveAll (made (d ∷ forms ms s t)) xss
    by (Made g) o n c l r =
        let z = n g refl (and_left (is_set_form g) (all_set_forms (made (forms ms s t))) l) in
        let q = r c (and_right (is_set_form g) (all_set_forms (made (forms ms s t))) l) in
        (z.0 ∷ q.0, (z.1, q.1), (z.2, q.2))
    by (Broken NoFault) o n c l r = absurd o
    by (Broken (IsWrong p)) o n c l r = absurd (wrong (form_faults (forms ms s t)) c)
      where
        wrong : (g : Fault) → join_faults (IsWrong p) g ≡ NoFault → ⊥
        wrong NoFault q = cc
        wrong (IsWrong x) q = cc
        wrong (IsBig x) q = cc
    by (Broken (IsBig p)) o n c l r = absurd (big (form_faults (forms ms s t)) c)
      where
        big : (g : Fault) → join_faults (IsBig p) g ≡ NoFault → ⊥
        big NoFault q = cc
        big (IsWrong x) q = cc
        big (IsBig x) q = cc

-- the set of records or of tuples
set_members : (p : Place) (s t : State) (make : List SetForm → SetForm) (o : Outcome) (bs : List Bool) (ms : List Denotation) → IsTrue (list_all (λ b. b) bs) → Forming s t bs ms →
    ((gs : List SetForm) (xss : List (List Value)) → Values (outcomes ms s t) xss → HaveAll gs xss → (xs : List Value) × (o ≡ Val (value.Set xs)) × HasAll (make gs) xs) →
    MembersOf o (form_of_all p make (forms ms s t))
set_members p s t make o bs ms e h k f c l = by (form_faults (forms ms s t)) refl (all_set_forms (made (forms ms s t))) refl c
  where
    by : (g : Fault) → form_faults (forms ms s t) ≡ g → (b : Bool) → all_set_forms (made (forms ms s t)) ≡ b →
        fault_or_form g (if b then Made (make (made (forms ms s t))) else Broken (IsWrong p)) ≡ Made f → (xs : List Value) × (o ≡ Val (value.Set xs)) × HasAll f xs
    by (IsWrong x) q b r d = absurd (broken d)
    by (IsBig x) q b r d = absurd (broken d)
    by NoFault q false r d = absurd (broken d)
    by NoFault q true r d =
        let z = several s t bs ms e h q r in
        subst (λ (j : SetForm). (xs : List Value) × (o ≡ Val (value.Set xs)) × HasAll j xs) (same_made d) (k (made (forms ms s t)) z.0 z.1 z.2)

record_members : (w : Width) (p : Place) (names : List (List ℕ)) (s t : State) (bs : List Bool) (ms : List Denotation) → IsTrue (list_all (λ b. b) bs) → Forming s t bs ms →
    MembersOf (strict (outcomes ms s t) (table w p (op.RecSet names))) (form_of_all p (form.Records names) (forms ms s t))
record_members w p names s t bs ms e h =
    set_members p s t (form.Records names) (strict (outcomes ms s t) (table w p (op.RecSet names))) bs ms e h (λ gs xss v k. (
      set_of (map (record_of names) (choices xss)),
      strict_values (outcomes ms s t) xss (table w p (op.RecSet names)) v ∙ on_sets_there p (λ yss. Val (records names yss)) xss,
      records_have names gs xss k,
    ))

tuple_members : (w : Width) (p : Place) (s t : State) (bs : List Bool) (ms : List Denotation) → IsTrue (list_all (λ b. b) bs) → Forming s t bs ms →
    MembersOf (strict (outcomes ms s t) (table w p op.Product)) (form_of_all p form.Tuples (forms ms s t))
tuple_members w p s t bs ms e h =
    set_members p s t form.Tuples (strict (outcomes ms s t) (table w p op.Product)) bs ms e h (λ gs xss v k. (
      set_of (map sequence (choices xss)),
      strict_values (outcomes ms s t) xss (table w p op.Product) v ∙ on_sets_there p (λ yss. Val (tuples yss)) xss,
      tuples_have gs xss k,
    ))

-- ---- honest forms

plain_honest : (o : Outcome) → Honest (plain o)
plain_honest (Val v) = tt
plain_honest (Wrong p) = tt
plain_honest (Big p) = tt

all_honest : (p : Place) (make : List SetForm → SetForm) (fs : List Formed) → Honest (form_of_all p make fs)
all_honest p make fs = by (form_faults fs) (all_set_forms (made fs))
  where
    by : (g : Fault) (b : Bool) → Honest (fault_or_form g (if b then Made (make (made fs)) else Broken (IsWrong p)))
    by NoFault true = tt
    by NoFault false = tt
    by (IsWrong x) b = tt
    by (IsBig x) b = tt

one_honest : (p : Place) (make : SetForm → SetForm) (s t : State) (bs : List Bool) (ms : List Denotation) → Forming s t bs ms → Honest (form_of_one p make (forms ms s t))
one_honest p make s t bs [] h = tt
one_honest p make s t [] (m ∷ ms) h = absurd h
one_honest p make s t (b ∷ bs) (m ∷ []) h = by (m.form s t) h.0.0
  where
    test : (g : SetForm) (c : Bool) → Honest (if c then Made (make g) else Broken (IsWrong p))
    test g true = tt
    test g false = tt

    by : (d : Formed) → Honest d → Honest (form_of_one p make (d ∷ []))
    by (Made g) k = test g (is_set_form g)
    by (Broken g) k = k
one_honest p make s t (b ∷ bs) (m ∷ n ∷ ms) h = tt

functions_honest : (p : Place) (s t : State) (bs : List Bool) (ms : List Denotation) → Forming s t bs ms → Honest (function_form p (outcomes ms s t) (forms ms s t))
functions_honest p s t bs [] h = tt
functions_honest p s t [] (m ∷ ms) h = absurd h
functions_honest p s t (b ∷ bs) (m ∷ ms) h = by (join_faults (fault_of (m.value s t)) (form_faults (forms ms s t))) (option_and_then set_items (layer_of (m.value s t)))
  where
    by : (g : Fault) (o : Option (List Value)) → Honest (fault_or_form g (functions_from p o (forms ms s t)))
    by (IsWrong x) o = tt
    by (IsBig x) o = tt
    by NoFault None = tt
    by NoFault (Some xs) = one_honest p (form.Functions xs) s t bs ms h.1

-- ---- a node

first_of : (s t : State) (p : Place) (bs : List Bool) (ms : List Denotation) → Forming s t bs ms → Honest ((child p 0 ms).form s t)
first_of s t p [] [] h = tt
first_of s t p [] (m ∷ ms) h = absurd h
first_of s t p (b ∷ bs) [] h = absurd h
first_of s t p (b ∷ bs) (m ∷ ms) h = h.0.0

first_members : (s t : State) (p : Place) (bs : List Bool) (ms : List Denotation) → Forming s t bs ms → IsTrue (is_finite_at (op.Noted []) bs) → HasMembers s t (child p 0 ms)
first_members s t p [] [] h e = λ f c l. absurd (broken c)
first_members s t p [] (m ∷ ms) h e = absurd h
first_members s t p (b ∷ bs) [] h e = absurd h
first_members s t p (b ∷ bs) (m ∷ ms) h e = h.0.1 e

no_form : (o : Outcome) (d : Formed) → ((f : SetForm) → d ≡ Made f → ⊥) → MembersOf o d
no_form o d h f c l = absurd (h f c)

power_node : (w : Width) (p : Place) (s t : State) (bs : List Bool) (ms : List Denotation) → Forming s t bs ms → AllByRecursion IsNormalOutcome (outcomes ms s t) → IsTrue (list_all (λ b. b) bs) →
    MembersOf (strict (outcomes ms s t) (table w p op.Powerset)) (form_of_one p form.Subsets (forms ms s t))
power_node w p s t bs [] h n e = no_form _ _ (λ f c. broken c)
power_node w p s t [] (m ∷ ms) h n e = absurd h
power_node w p s t (b ∷ bs) (m ∷ []) h n e = subset_members w p s t m (h.0.1 (and_left b (list_all (λ c. c) bs) e)) n.0
power_node w p s t (b ∷ bs) (m ∷ k ∷ ms) h n e = no_form _ _ (λ f c. broken c)

function_node : (w : Width) (p : Place) (s t : State) (bs : List Bool) (ms : List Denotation) → Forming s t bs ms → AllByRecursion IsNormalOutcome (outcomes ms s t) → IsTrue (is_finite_at op.FunSet bs) →
    MembersOf (strict (outcomes ms s t) (table w p op.FunSet)) (function_form p (outcomes ms s t) (forms ms s t))
function_node w p s t bs [] h n e = no_form _ _ (λ f c. broken c)
function_node w p s t [] (m ∷ ms) h n e = absurd h
function_node w p s t (b ∷ bs) (a ∷ []) h n e = no_form _ _ (λ f c. by (fault_of (a.value s t)) (option_and_then set_items (layer_of (a.value s t))) f c)
  where
    by : (g : Fault) (o : Option (List Value)) (f : SetForm) → fault_or_form (join_faults g NoFault) (functions_from p o []) ≡ Made f → ⊥
    by NoFault None f c = broken c
    by NoFault (Some xs) f c = broken c
    by (IsWrong x) o f c = broken c
    by (IsBig x) o f c = broken c
function_node w p s t (b ∷ []) (a ∷ m ∷ ms) h n e = absurd h.1
function_node w p s t (b ∷ c ∷ bs) (a ∷ m ∷ []) h n e = function_members w p s t a m (h.1.0.1 (and_left c (list_all (λ d. d) bs) e)) n.0
function_node w p s t (b ∷ c ∷ bs) (a ∷ m ∷ k ∷ ms) h n e = no_form _ _ (λ f d. by (join_faults (fault_of (a.value s t)) (form_faults (forms (m ∷ k ∷ ms) s t))) (option_and_then set_items (layer_of (a.value s t))) f d)
  where
    by : (g : Fault) (o : Option (List Value)) (f : SetForm) → fault_or_form g (functions_from p o (forms (m ∷ k ∷ ms) s t)) ≡ Made f → ⊥
    by NoFault None f c = broken c
    by NoFault (Some xs) f c = broken c
    by (IsWrong x) o f c = broken c
    by (IsBig x) o f c = broken c

abbrev pub FormingAt : Width → Place → Op → ℕ → View → State → State → List Bool → Type 0
FormingAt w p o n v s t bs = Honest (form_of w p o n v s t) × (IsTrue (is_finite_at o bs) → MembersOf (value_of w p o n v s t) (form_of w p o n v s t))

node_forms : (w : Width) (p : Place) (o : Op) (n : ℕ) (v : View) (s t : State) (bs : List Bool) → IsTrue (is_expanded_op o) → Forming s t bs v.here →
    AllByRecursion IsNormalOutcome (outcomes v.here s t) → FormingAt w p o n v s t bs
node_forms w p op.IntSet n v s t bs x h k = (tt, λ e. absurd (false≢true e))
node_forms w p op.NatSet n v s t bs x h k = (tt, λ e. absurd (false≢true e))
node_forms w p op.StringSet n v s t bs x h k = (tt, λ e. absurd (false≢true e))
node_forms w p op.SeqSet n v s t bs x h k = (one_honest p form.Sequences s t bs v.here h, λ e. absurd (false≢true e))
node_forms w p op.Powerset n v s t bs x h k = (one_honest p form.Subsets s t bs v.here h, λ e. power_node w p s t bs v.here h k e)
node_forms w p op.FunSet n v s t bs x h k = (functions_honest p s t bs v.here h, λ e. function_node w p s t bs v.here h k e)
node_forms w p (op.RecSet names) n v s t bs x h k = (all_honest p (form.Records names) (forms v.here s t), λ e. record_members w p names s t bs v.here e h)
node_forms w p op.Product n v s t bs x h k = (all_honest p form.Tuples (forms v.here s t), λ e. tuple_members w p s t bs v.here e h)
node_forms w p (op.Noted y) n v s t bs x h k = (first_of s t p bs v.here h, λ e. first_members s t p bs v.here h e)
node_forms w p op.Prime n v s t bs x h k = absurd (false≢true x)
node_forms w p o n v s t bs x h k = (plain_honest (value_of w p o n v s t), λ e. plain_members (value_of w p o n v s t))

-- ---- trees

-- of an expanded tree in a normal scope, at normal states
abbrev pub FormsWell : Width → Expr → Type 0
FormsWell w e = IsTrue (is_expanded e) → (sc : Scope) (s t : State) → NormalScope sc → AllByRecursion Normal s.vals → AllByRecursion Normal t.vals →
    Honest ((meaning w e sc).form s t) × (IsTrue (is_finite_form e) → HasMembers s t (meaning w e sc))

-- each of several at one scope
abbrev KidsForm : Scope → State → State → List Bool → List Meaning → Type 0
KidsForm sc s t [] [] = Unit {0}
KidsForm sc s t (b ∷ bs) (k ∷ ks) = (Honest ((k sc).form s t) × (IsTrue b → HasMembers s t (k sc))) × KidsForm sc s t bs ks
KidsForm sc s t [] (k ∷ ks) = ⊥
KidsForm sc s t (b ∷ bs) [] = ⊥

absent_forms : (p : Place) (s t : State) (b : Bool) → Honest ((absent p).form s t) × (IsTrue b → HasMembers s t (absent p))
absent_forms p s t b = (tt, λ e f c l. absurd (broken c))

outer_forms : (p : Place) (ms bs : List Bool) (ks : List Meaning) (sc : Scope) (s t : State) → KidsForm sc s t bs ks → Forming s t bs (outer p ms ks sc)
outer_forms p ms [] [] sc s t h = tt
outer_forms p ms [] (k ∷ ks) sc s t h = absurd h
outer_forms p ms (b ∷ bs) [] sc s t h = absurd h
outer_forms p [] (b ∷ bs) (k ∷ ks) sc s t h = (h.0, outer_forms p [] bs ks sc s t h.1)
outer_forms p (true ∷ ms) (b ∷ bs) (k ∷ ks) sc s t h = (absent_forms p s t b, outer_forms p ms bs ks sc s t h.1)
outer_forms p (false ∷ ms) (b ∷ bs) (k ∷ ks) sc s t h = (h.0, outer_forms p ms bs ks sc s t h.1)

denotations_form : (bs : List Bool) (ks : List Meaning) (sc : Scope) (s t : State) → KidsForm sc s t bs ks → Forming s t bs (map (λ k. k sc) ks)
denotations_form [] [] sc s t h = tt
denotations_form [] (k ∷ ks) sc s t h = absurd h
denotations_form (b ∷ bs) [] sc s t h = absurd h
denotations_form (b ∷ bs) (k ∷ ks) sc s t h = (h.0, denotations_form bs ks sc s t h.1)

abbrev KidsNormal : Scope → State → State → List Meaning → Type 0
KidsNormal sc s t ks = AllByRecursion (λ (k : Meaning). IsNormalOutcome ((k sc).value s t)) ks

outer_values : (p : Place) (ms : List Bool) (ks : List Meaning) (sc : Scope) (s t : State) → KidsNormal sc s t ks → AllByRecursion IsNormalOutcome (outcomes (outer p ms ks sc) s t)
outer_values p ms [] sc s t h = tt
outer_values p [] (k ∷ ks) sc s t h = (h.0, outer_values p [] ks sc s t h.1)
outer_values p (true ∷ ms) (k ∷ ks) sc s t h = (tt, outer_values p ms ks sc s t h.1)
outer_values p (false ∷ ms) (k ∷ ks) sc s t h = (h.0, outer_values p ms ks sc s t h.1)

denotation_values : (ks : List Meaning) (sc : Scope) (s t : State) → KidsNormal sc s t ks → AllByRecursion IsNormalOutcome (outcomes (map (λ k. k sc) ks) s t)
denotation_values [] sc s t h = tt
denotation_values (k ∷ ks) sc s t h = (h.0, denotation_values ks sc s t h.1)

abbrev node_meaning : Width → Place → Op → List (List ℕ) → List Meaning → Meaning
node_meaning w p o xs ks sc = denotation_of w p o (length xs) (view p (role o (length xs)) xs ks sc)

node_well : (w : Width) (p : Place) (o : Op) (xs : List (List ℕ)) (ks : List Meaning) (bs : List Bool) (sc : Scope) (s t : State) → IsTrue (is_expanded_op o) →
    KidsForm sc s t bs ks → KidsNormal sc s t ks →
    Honest ((node_meaning w p o xs ks sc).form s t) × (IsTrue (is_finite_at o bs) → HasMembers s t (node_meaning w p o xs ks sc))
node_well w p (op.Use x) xs ks bs sc s t e h n = absurd (false≢true e)
node_well w p (op.Param x) xs ks bs sc s t e h n = absurd (false≢true e)
node_well w p (op.Let ds) xs ks bs sc s t e h n = absurd (false≢true e)
node_well w p op.Prime xs ks bs sc s t e h n = absurd (false≢true e)
node_well w p (op.Bound x) xs ks bs sc s t e h n =
    node_forms w p (op.Bound x) (length xs) (view p (role (op.Bound x) (length xs)) xs ks sc) s t bs e (denotations_form bs ks sc s t h) (denotation_values ks sc s t n)
node_well w p o xs ks bs sc s t e h n =
    node_forms w p o (length xs) (view p (role o (length xs)) xs ks sc) s t bs e (outer_forms p (marks_of (role o (length xs))) bs ks sc s t h) (outer_values p (marks_of (role o (length xs))) ks sc s t n)

pub finite-roll : (x : Expr-F Expr) → is_finite_form (roll-Expr x) ≡ is_finite_at x.op (map is_finite_form x.args)
unfolding is_finite_form
finite-roll x = fold-roll-Expr Bool (λ x. is_finite_at x.op x.args) x

expanded-roll : (x : Expr-F Expr) → is_expanded (roll-Expr x) ≡ is_expanded_op x.op && list_all (λ b. b) (map is_expanded x.args)
expanded-roll x = fold-roll-Expr Bool (λ x. is_expanded_op x.op && list_all (λ b. b) x.args) x

kids_form : (w : Width) (es : List Expr) → Each (FormsWell w) es → IsTrue (list_all (λ b. b) (map is_expanded es)) → (sc : Scope) (s t : State) → NormalScope sc →
    AllByRecursion Normal s.vals → AllByRecursion Normal t.vals → KidsForm sc s t (map is_finite_form es) (map (meaning w) es)
kids_form w [] h e sc s t n i j = tt
kids_form w (d ∷ es) h e sc s t n i j = (
  h.0 (and_left (is_expanded d) (list_all (λ b. b) (map is_expanded es)) e) sc s t n i j,
  kids_form w es h.1 (and_right (is_expanded d) (list_all (λ b. b) (map is_expanded es)) e) sc s t n i j,
)

kids_normal : (w : Width) (es : List Expr) (sc : Scope) (s t : State) → NormalScope sc → AllByRecursion Normal s.vals → AllByRecursion Normal t.vals → KidsNormal sc s t (map (meaning w) es)
kids_normal w [] sc s t n i j = tt
kids_normal w (d ∷ es) sc s t n i j = ((meaning_normal w d sc n).value s t i j, kids_normal w es sc s t n i j)

-- the law of members
pub forms_well : (w : Width) (e : Expr) → FormsWell w e
forms_well w = by_nodes (FormsWell w) (λ x h e sc s t n i j.
    let e0 : IsTrue (is_expanded_op x.op && list_all (λ b. b) (map is_expanded x.args)) = subst IsTrue (expanded-roll x) e in
    let z = node_well w x.place x.op x.binds (map (meaning w) x.args) (map is_finite_form x.args) sc s t (and_left (is_expanded_op x.op) (list_all (λ b. b) (map is_expanded x.args)) e0)
    (kids_form w x.args h (and_right (is_expanded_op x.op) (list_all (λ b. b) (map is_expanded x.args)) e0) sc s t n i j) (kids_normal w x.args sc s t n i j) in
    subst (λ (m : Meaning). Honest ((m sc).form s t) × (IsTrue (is_finite_form (roll-Expr x)) → HasMembers s t (m sc))) (sym (meaning-roll w x))
    (z.0, λ f. z.1 (subst IsTrue (finite-roll x) f)))

-- ---- the law of forms

member_fits : (a : Shape) (v : Value) (ys : List Value) → AllFit a ys → IsTrue (member v ys) → Fits a v
member_fits a v [] h e = absurd (false≢true e)
member_fits a v (y ∷ ys) h e = by (same_value v y) refl e (λ k. member_fits a v ys h.1 k)
  where
    by : (b : Bool) → same_value v y ≡ b → IsTrue (b || member v ys) → (IsTrue (member v ys) → Fits a v) → Fits a v
    by true s k r = subst (Fits a) (sym (same_equal v y s)) h.0
    by false s k r = r k

-- of a set that fits, each member fits
pub member_of_fitting : (a : Shape) (xs : List Value) (v : Value) → Fits a (value.Set xs) → IsTrue (member v xs) → Fits (inside a) v
member_of_fitting a xs v h e = by a (members_of a xs (subst (FitsLayer a) (value.outs-Set xs) h))
  where
    by : (a : Shape) → IsSet a xs → Fits (inside a) v
    by _ (is_set {a = a} k l) = member_fits a v xs l e

-- a member of a finite form, of a sound expanded tree at states that fit and are normal
pub form_fits : (w : ℕ) (e : Expr) (ks : List Kind) (sc : Scope) (g : Extent) (s t : State) (f : SetForm) (v : Value) → 2 ≤ w → IsTrue (is_expanded e) → IsTrue (is_finite_form e) →
    Ready sc g s t → NormalScope sc → AllByRecursion Normal s.vals → AllByRecursion Normal t.vals → IsTrue ((tree_sized w e).sizing ks g).sound →
    (meaning (Some w) e sc).form s t ≡ Made f → IsTrue (is_set_form f) → Normal v → IsTrue (belongs f v) → Fits (inside (shape_of_tree w e ks g)) v
form_fits w e ks sc g s t f v wide x fin r n i j o m q nv b =
    let z = (forms_well (Some w) e x sc s t n i j).1 fin f m q in
    member_of_fitting (shape_of_tree w e ks g) z.0 v (each_value_fits w e ks sc g s t (value.Set z.0) wide x r o z.1) (z.2 v nv b)

pub each_member_fits : (w : ℕ) (e : Expr) (ks : List Kind) (sc : Scope) (g : Extent) (s t : State) (f : SetForm) (v : Value) → FormFitsItsShape w e ks sc g s t f v
each_member_fits w e ks sc g s t f v wide x fin r n o m q nv b =
    form_fits w e ks sc g s t f v wide x fin r (normal_scope sc n.bound n.named) n.now n.next o m q nv b
  where
    normal_scope : (sc : Scope) → AllByRecursion (λ (b : List ℕ × Value). Normal b.1) sc.bound → sc.named ≡ [] → NormalScope sc
    normal_scope sc h e = record { bound = h; named = subst (λ (ds : List (List ℕ × (List Denotation → Denotation))). AllByRecursion (λ (d : List ℕ × (List Denotation → Denotation)). NormalDef d.1) ds) (sym e) tt }
