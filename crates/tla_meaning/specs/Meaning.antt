-- The meaning of expressions: of a node, by the meanings of its children.
use Rattle.std.specs.Prelude.{ℕ, zero, suc, Bool, true, false, not, List, [], ◌∷◌, ◌++◌, map, zip, replicate, length, take, drop, Option, Some, None, option_map, option_and_then, slice_get, if◌then◌else◌}
use Rattle.std.specs.List.{list_any, list_all}
use Rattle.tla_values.specs.Order.{Layer}
use Rattle.tla_values.specs.Sets.{apply, override_at}
use Rattle.tla_values.specs.declared.value.Value.{Value, out-Value}
use Rattle.tla_values.specs.declared.value.Value.TheVariants as value
use Rattle.tla_values.specs.declared.value.Value.TheOpen as layer
use Rattle.tla_meaning.specs.declared.forms.SetForm.{SetForm}
use Rattle.tla_meaning.specs.declared.forms.SetForm.TheVariants as form
use Rattle.tla_meaning.specs.declared.op.Op.{Op}
use Rattle.tla_meaning.specs.declared.op.Op.TheVariants as op
use Rattle.tla_meaning.specs.declared.place.Place.{Place}
use Rattle.tla_meaning.specs.declared.job.State.{State}
use Rattle.tla_meaning.specs.declared.outcome.Outcome.{Outcome}
use Rattle.tla_meaning.specs.declared.outcome.Outcome.TheVariants.{Val, Wrong, Big}
use Rattle.tla_meaning.specs.declared.outcome.Fault.TheVariants.{NoFault, IsWrong, IsBig}
use Rattle.tla_meaning.specs.Outcomes.{join_faults, fault_of, values, strict, with_value}
use Rattle.tla_meaning.specs.Numbers.{Width, number}
use Rattle.tla_meaning.specs.Shapes.{the_set, the_function, sequence, choices, items_of, set_items}
use Rattle.tla_meaning.specs.Forms.{Formed, Made, Broken, form_fault, form_faults, made, is_set_form, all_set_forms, fault_or_form, belongs}
use Rattle.tla_meaning.specs.Operators.{table, yes_no, on_all_sets, on_items}
use Rattle.tla_meaning.specs.Scopes.{Denotation, Scope, find_last, bind, define, pass, absent, stands_for, value_found}

-- a node means something in each scope
abbrev pub Meaning : Type 0
Meaning = Scope → Denotation

abbrev pub outcomes : List Denotation → State → State → List Outcome
outcomes as' s t = map (λ a. a.value s t) as'

abbrev pub denotations : List Meaning → Scope → List Denotation
denotations ks sc = map (λ k. k sc) ks

-- the n-th child
abbrev pub child : Place → ℕ → List Denotation → Denotation
child p n [] = absent p
child p zero (a ∷ as') = a
child p (suc n) (a ∷ as') = child p n as'

-- what a node reads of its scope and of its children
pub record View : Type 0 where
  -- the children in the node's scope
  pub here : List Denotation
  -- and where the node's bound names have these values
  pub under : List Value → List Denotation
  -- the value of the bound name that the node reads
  pub held : Option Value
  -- what a use, a parameter or a LET stands for
  pub whole : Option Denotation

-- goes on by a truth value
abbrev pub by_truth : Place → Layer Value → Outcome → Outcome → Outcome
by_truth p (layer.Bool true) a b = a
by_truth p (layer.Bool false) a b = b
by_truth p v a b = Wrong p

-- goes on by the truth value of an outcome
abbrev pub choose : Place → Outcome → Outcome → Outcome → Outcome
choose p o a b = with_value o (λ v. by_truth p (out-Value v) a b)

-- from the left, up to the first that decides
abbrev pub conjoined : Place → List Outcome → Outcome
conjoined p [] = yes_no true
conjoined p (o ∷ os) = choose p o (conjoined p os) (yes_no false)

abbrev pub disjoined : Place → List Outcome → Outcome
disjoined p [] = yes_no false
disjoined p (o ∷ os) = choose p o (yes_no true) (disjoined p os)

abbrev pub implied : Place → List Outcome → Outcome
implied p (a ∷ b ∷ []) = choose p a (choose p b (yes_no true) (yes_no false)) (yes_no true)
implied p os = Wrong p

abbrev pub if_chosen : Place → List Outcome → Outcome
if_chosen p (c ∷ a ∷ b ∷ []) = choose p c a b
if_chosen p os = Wrong p

-- guards in order, each with its branch; one at the end is that of OTHER
abbrev pub case_chosen : Place → List Outcome → Outcome
case_chosen p [] = Wrong p
case_chosen p (o ∷ []) = o
case_chosen p (c ∷ a ∷ os) = choose p c a (case_chosen p os)

-- ---- binders

abbrev pub truth_of : Layer Value → Option Bool
truth_of (layer.Bool b) = Some b
truth_of x = None

abbrev pub truths : List Value → Option (List Bool)
truths [] = Some []
truths (v ∷ vs) = option_and_then (λ b. option_map (λ bs. b ∷ bs) (truths vs)) (truth_of (out-Value v))

abbrev pub on_all_truths : Place → (List Bool → Outcome) → List Value → Outcome
on_all_truths p f vs = elim (truths vs) [ None ↦ Wrong p | Some bs ↦ f bs ]

-- the first name's values at the choices that pass
abbrev pub kept : List (List Value) → List Bool → List Value
kept ((v ∷ vs) ∷ cs) (true ∷ bs) = v ∷ kept cs bs
kept (vs ∷ cs) (b ∷ bs) = kept cs bs
kept cs bs = []

-- one argument, or the tuple of several
abbrev pub argument : List Value → Value
argument (v ∷ []) = v
argument vs = sequence vs

-- what a binder gives of its choices and of the body's value at each
abbrev pub bound_table : Place → Op → List (List Value) → List Value → Outcome
bound_table p op.Exists cs vs = on_all_truths p (λ bs. yes_no (list_any (λ b. b) bs)) vs
bound_table p op.Forall cs vs = on_all_truths p (λ bs. yes_no (list_all (λ b. b) bs)) vs
bound_table p op.Filter cs vs = on_all_truths p (λ bs. Val (the_set (kept cs bs))) vs
bound_table p op.MapTo cs vs = Val (the_set vs)
bound_table p op.Lambda cs vs = Val (the_function (zip (map argument cs) vs))
bound_table p o cs vs = Wrong p

-- the domains join first, and then the body over all members
abbrev pub over_members : Place → Op → ℕ → View → State → State → Outcome
over_members p o n v s t =
    let body : List Value → Outcome = λ vs. (child p (n) (v.under vs)).value s t in
    strict
    (outcomes (take (n) v.here) s t)
    (on_all_sets p (λ xss. strict (map body (choices xss)) (bound_table p o (choices xss))))

-- ---- EXCEPT

-- an update: the values of its indexes, and its right side at the old value
abbrev pub Update : Type 0
Update = List Value × (Value → Outcome)

pub data Reached : Type 0 where
  At : Value → Reached
  Outside : Reached
  NoFunction : Reached

abbrev pub reached_at : Option Value → Reached
reached_at None = Outside
reached_at (Some v) = At v

abbrev pub step_into : Layer Value → Value → Reached
step_into (layer.Fun ps) i = reached_at (apply ps i)
step_into x i = NoFunction

abbrev pub go_on : Reached → (Value → Reached) → Reached
go_on (At v) f = f v
go_on Outside f = Outside
go_on NoFunction f = NoFunction

-- the value at the end of a path
abbrev pub at_path : Value → List Value → Reached
at_path f [] = At f
at_path f (i ∷ is) = go_on (step_into (out-Value f) i) (λ v. at_path v is)

abbrev pub put_at : Layer Value → Value → (Value → Value) → Value → Value
put_at (layer.Fun ps) i change f =
    elim (apply ps i) [ None ↦ f | Some v ↦ value.Fun (override_at ps i (change v)) ]
put_at x i change f = f

-- the value with a new one at the end of a path
abbrev pub set_path : List Value → Value → Value → Value
set_path [] new f = new
set_path (i ∷ is) new f = put_at (out-Value f) i (set_path is new) f

-- each update to the result so far; one whose path leaves the domain changes nothing
abbrev pub updated : Place → List Update → Value → Outcome
updated p [] f = Val f
updated p (u ∷ us) f =
    elim (at_path f u.0) [
      | At old ↦ with_value (u.1 old) (λ new. updated p us (set_path u.0 new f))
      | Outside ↦ updated p us f
      | NoFunction ↦ Wrong p
    ]

-- the children that are indexes, and the updates
abbrev pub all_indexes : List ℕ → List Denotation → List Denotation
all_indexes [] ks = []
all_indexes (n ∷ ns) ks = take n ks ++ all_indexes ns (drop (suc n) ks)

abbrev pub updates : Place → List ℕ → List Denotation → (List Value → List Denotation) → State → State → List Update
updates p [] ks under s t = []
updates p (n ∷ ns) ks under s t =
    (values (outcomes (take n ks) s t), λ old. (child p n (under (old ∷ []))).value s t)
    ∷ updates p ns (drop (suc n) ks) (λ vs. drop (suc n) (under vs)) s t

abbrev pub first_updated : Place → List Update → List Value → Outcome
first_updated p us [] = Wrong p
first_updated p us (f ∷ vs) = updated p us f

abbrev pub except : Place → List ℕ → List Denotation → (List Value → List Denotation) → State → State → Outcome
except p ns [] under s t = Wrong p
except p ns (k ∷ ks) under s t =
    strict
    (outcomes (k ∷ all_indexes ns ks) s t)
    (first_updated p (updates p ns ks (λ vs. drop 1 (under vs)) s t))

-- ---- folds over a sequence

-- each element in order, up to the first fault
abbrev pub folded : (Value → Value → Outcome) → List Value → Value → Outcome
folded f [] v = Val v
folded f (x ∷ xs) v = with_value (f v x) (folded f xs)

abbrev pub fold_over : Place → (Value → Value → Outcome) → List Value → Outcome
fold_over p f (v ∷ q ∷ []) =
    elim (out-Value q) as (λ _. Outcome) [ layer.Fun ps ↦ on_items p (λ xs. folded f xs v) (items_of ps) | _ ↦ Wrong p ]
fold_over p f vs = Wrong p

-- ---- set forms

abbrev pub forms : List Denotation → State → State → List Formed
forms as' s t = map (λ a. a.form s t) as'

-- the form of children that are forms, where each is one
abbrev pub form_of_all : Place → (List SetForm → SetForm) → List Formed → Formed
form_of_all p make fs =
    fault_or_form (form_faults fs) (if all_set_forms (made fs) then Made (make (made fs)) else Broken (IsWrong p))

abbrev pub form_of_one : Place → (SetForm → SetForm) → List Formed → Formed
form_of_one p make (f ∷ []) =
    elim f [ Made g ↦ (if is_set_form g then Made (make g) else Broken (IsWrong p)) | Broken g ↦ Broken g ]
form_of_one p make fs = Broken (IsWrong p)

-- the value of an outcome, opened
abbrev pub layer_of : Outcome → Option (Layer Value)
layer_of (Val v) = Some (out-Value v)
layer_of (Wrong p) = None
layer_of (Big p) = None

-- the functions from a set of these items
abbrev pub functions_from : Place → Option (List Value) → List Formed → Formed
functions_from p None fs = Broken (IsWrong p)
functions_from p (Some xs) fs = form_of_one p (form.Functions xs) fs

-- the domain is evaluated, and the other side is a form; their faults join first
abbrev pub function_form : Place → List Outcome → List Formed → Formed
function_form p (o ∷ os) (d ∷ fs) =
    fault_or_form (join_faults (fault_of o) (form_faults fs)) (functions_from p (option_and_then set_items (layer_of o)) fs)
function_form p os fs = Broken (IsWrong p)

abbrev pub plain : Outcome → Formed
plain (Val v) = Made (form.Plain v)
plain (Wrong p) = Broken (IsWrong p)
plain (Big p) = Broken (IsBig p)

-- the value and the form of a membership's two sides
abbrev pub in_form : Place → (Value → SetForm → Outcome) → List Outcome → List Formed → Outcome
in_form p test (Val v ∷ os) (d ∷ Made f ∷ []) = if is_set_form f then test v f else Wrong p
in_form p test (o ∷ os) (d ∷ f ∷ []) =
    elim (join_faults (fault_of o) (form_fault f)) [ NoFault ↦ Wrong p | IsWrong q ↦ Wrong q | IsBig q ↦ Big q ]
in_form p test os fs = Wrong p

abbrev pub all_in : Place → Value → SetForm → Outcome
all_in p v f = elim (set_items (out-Value v)) [ None ↦ Wrong p | Some xs ↦ yes_no (list_all (belongs f) xs) ]

-- ---- definitions in an expression

abbrev pub let_scope : List (List ℕ × ℕ) → List (List ℕ) → List Meaning → Scope → Scope
let_scope (d ∷ ds) xs (k ∷ ks) sc =
    let_scope ds (drop d.1 xs) ks (define d.0 (λ as'. k (pass (take d.1 xs) as' sc)) sc)
let_scope ds xs ks sc = sc

-- what an operator reads besides its children, or else which of its children stand under its bound names
pub data Role : Type 0 where
  Named : List ℕ → Role
  Held : List ℕ → Role
  Lets : List (List ℕ × ℕ) → Role
  Plain_role : List Bool → Role

abbrev pub except_marks : List ℕ → List Bool
except_marks [] = []
except_marks (n ∷ ns) = replicate n false ++ true ∷ except_marks ns

abbrev pub behind : ℕ → Role
behind n = Plain_role (replicate n false ++ true ∷ [])

abbrev pub role : Op → ℕ → Role
role (op.Param x) n = Named x
role (op.Use x) n = Named x
role (op.Let ds) n = Lets ds
role (op.Bound x) n = Held x
role op.Exists n = behind n
role op.Forall n = behind n
role op.Filter n = behind n
role op.MapTo n = behind n
role op.Lambda n = behind n
role op.Fold n = Plain_role (true ∷ [])
role (op.Except ns) n = Plain_role (false ∷ except_marks ns)
role o n = Plain_role []

-- what the children outside and inside mean, each list with nothing at the places of the others
abbrev pub outer : Place → List Bool → List Meaning → Scope → List Denotation
outer p ms [] sc = []
outer p [] (k ∷ ks) sc = k sc ∷ outer p [] ks sc
outer p (true ∷ ms) (k ∷ ks) sc = absent p ∷ outer p ms ks sc
outer p (false ∷ ms) (k ∷ ks) sc = k sc ∷ outer p ms ks sc

abbrev pub inner : Place → List Bool → List Meaning → Scope → List Denotation
inner p ms [] sc = []
inner p [] (k ∷ ks) sc = absent p ∷ inner p [] ks sc
inner p (true ∷ ms) (k ∷ ks) sc = k sc ∷ inner p ms ks sc
inner p (false ∷ ms) (k ∷ ks) sc = absent p ∷ inner p ms ks sc

abbrev pub view : Place → Role → List (List ℕ) → List Meaning → Scope → View
view p (Named x) xs ks sc = record {
  here = denotations ks sc;
  under = λ vs. [];
  held = None;
  whole = Some (stands_for p (find_last x sc.named) (denotations ks sc));
}
view p (Held x) xs ks sc = record { here = denotations ks sc; under = λ vs. []; held = find_last x sc.bound; whole = None }
view p (Lets ds) xs ks sc = record {
  here = denotations ks sc;
  under = λ vs. [];
  held = None;
  whole = Some (child p (length ds) (denotations ks (let_scope ds xs ks sc)));
}
view p (Plain_role ms) xs ks sc = record {
  here = outer p ms ks sc;
  under = λ vs. inner p ms ks (bind xs vs sc);
  held = None;
  whole = None;
}

-- ---- the value of a node

abbrev pub read : Place → ℕ → State → Outcome
read p i s = value_found p (slice_get s.vals i)

-- the negation of an UNCHANGED
abbrev pub changed : Place → Outcome → Outcome
changed p o = choose p o (yes_no false) (yes_no true)

abbrev pub value_of : Width → Place → Op → ℕ → View → State → State → Outcome
value_of w p (op.Bool b) n v s t = yes_no b
value_of w p (op.Int i) n v s t = number w p i
value_of w p (op.Str a) n v s t = Val (value.Text a)
value_of w p op.And n v s t = conjoined p (outcomes v.here s t)
value_of w p op.Or n v s t = disjoined p (outcomes v.here s t)
value_of w p op.Implies n v s t = implied p (outcomes v.here s t)
value_of w p op.If n v s t = if_chosen p (outcomes v.here s t)
value_of w p (op.Case other) n v s t = case_chosen p (outcomes v.here s t)
value_of w p op.In n v s t =
    in_form p (λ v f. yes_no (belongs f v)) (outcomes v.here s t) (forms v.here s t)
value_of w p op.NotIn n v s t =
    in_form p (λ v f. yes_no (not (belongs f v))) (outcomes v.here s t) (forms v.here s t)
value_of w p op.SubsetEq n v s t = in_form p (all_in p) (outcomes v.here s t) (forms v.here s t)
value_of w p op.Exists n v s t = over_members p op.Exists n v s t
value_of w p op.Forall n v s t = over_members p op.Forall n v s t
value_of w p op.Filter n v s t = over_members p op.Filter n v s t
value_of w p op.MapTo n v s t = over_members p op.MapTo n v s t
value_of w p op.Lambda n v s t = over_members p op.Lambda n v s t
value_of w p (op.Except ns) n v s t = except p ns v.here v.under s t
value_of w p op.Fold n v s t =
    strict
    (outcomes (drop 1 v.here) s t)
    (fold_over p (λ a b. (child p 0 (v.under (a ∷ b ∷ []))).value s t))
value_of w p (op.Name i primed) n v s t = read p i (if primed then t else s)
value_of w p (op.Bound x) n v s t = value_found p v.held
value_of w p op.Prime n v s t = (child p 0 v.here).value t t
value_of w p op.Unchanged n v s t = (child p 0 v.here).unchanged s t
value_of w p op.Boxed n v s t = disjoined p ((child p 0 v.here).value s t ∷ (child p 1 v.here).unchanged s t ∷ [])
value_of w p op.Angled n v s t =
    conjoined p ((child p 0 v.here).value s t ∷ changed p ((child p 1 v.here).unchanged s t) ∷ [])
value_of w p (op.Noted x) n v s t = (child p 0 v.here).value s t
value_of w p o n v s t = strict (outcomes v.here s t) (table w p o)

-- ---- the form of a node

abbrev pub form_of : Width → Place → Op → ℕ → View → State → State → Formed
form_of w p op.IntSet n v s t = Made form.AllInts
form_of w p op.NatSet n v s t = Made form.AllNats
form_of w p op.StringSet n v s t = Made form.AllTexts
form_of w p op.SeqSet n v s t = form_of_one p form.Sequences (forms v.here s t)
form_of w p op.Powerset n v s t = form_of_one p form.Subsets (forms v.here s t)
form_of w p op.FunSet n v s t = function_form p (outcomes v.here s t) (forms v.here s t)
form_of w p (op.RecSet names) n v s t = form_of_all p (form.Records names) (forms v.here s t)
form_of w p op.Product n v s t = form_of_all p form.Tuples (forms v.here s t)
form_of w p (op.Noted x) n v s t = (child p 0 v.here).form s t
form_of w p op.Prime n v s t = (child p 0 v.here).form t t
form_of w p o n v s t = plain (value_of w p o n v s t)

-- ---- UNCHANGED: of a tuple, the conjunction over its items

abbrev pub kept_value : Place → Outcome → Outcome → Outcome
kept_value p a b = strict (b ∷ a ∷ []) (table None p op.Eq)

abbrev pub unchanged_of : Width → Place → Op → ℕ → View → State → State → Outcome
unchanged_of w p op.Tuple n v s t = conjoined p (map (λ a. a.unchanged s t) v.here)
unchanged_of w p (op.Noted x) n v s t = (child p 0 v.here).unchanged s t
unchanged_of w p op.Prime n v s t = (child p 0 v.here).unchanged t t
unchanged_of w p o n v s t = kept_value p (value_of w p o n v s t) (value_of w p o n v t t)
