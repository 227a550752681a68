-- Set forms by their kinds, and what belongs to lists of them.
use Rattle.tla_evaluator.proofs.Words.{Equal, Fun, Functions, Greater, Layer, Less, Plain, Records, Sequences, Set, SetForm, Subsets, Text, Tuples, Value, all_belong, arguments, belongs, drop_of_length-le, fields_at, function_passes, has_fields, items_of, length-map, list_all, list_any, member, out-SetForm, out-Value, outs-Fun, outs-Functions, outs-Plain, outs-Records, outs-Sequences, outs-Set, outs-Subsets, outs-Text, outs-Tuples, part_belongs, passes, results, roll-Value, roll-out-Value, rolls-Fun, rolls-Set, rolls-Text, same_set, same_value, set_passes, text_cmp, value_cmp}
use Rattle.std.proofs.lemmas.Bool.Decides.{nat_tests}
use Rattle.std.proofs.Common.{◌≡◌, ℕ, zero, suc, ◌≤◌, ◌==◌, ◌&&◌, ◌||◌, map, Bool, true, false, length, drop, arith, List, [], ◌∷◌, refl, ap, ◌∙◌, sym}
use Rattle.tla_values.proofs.Laws.{value_back}
use Rattle.std.specs.declared.cmp.Ordering.{Ordering}
use Rattle.std.specs.Ordering.{is_eq, ordering_reverse}
use Rattle.tla_values.proofs.OrderLemmas.{by_kinds}
use Rattle.tla_values.specs.declared.value.Value.TheOpen as layer
use Rattle.tla_meaning.specs.declared.forms.SetForm.TheOpen as form
use Rattle.tla_meaning.specs.declared.forms.SetForm.TheFolds.{fold_out-SetForm, map-SetForm}

-- tests of what is made of items
any_map : {X Y : Type 0} (f : Y → Bool) (g : X → Y) (xs : List X) → list_any (λ x. f (g x)) xs ≡ list_any f (map g xs)
any_map f g [] = refl
any_map f g (x ∷ xs) = ap (λ b. f (g x) || b) (any_map f g xs)

all_map : {X Y : Type 0} (e : X → Bool) (f : Y → Bool) (g : X → Y) (xs : List X) → ((x : X) → e x ≡ f (g x)) → list_all e xs ≡ list_all f (map g xs)
all_map e f g [] h = refl
all_map e f g (x ∷ xs) h = ap (λ b. b && list_all e xs) (h x) ∙ ap (λ b. f (g x) && b) (all_map e f g xs h)

all_same : {X : Type 0} (e f : X → Bool) (xs : List X) → ((x : X) → e x ≡ f x) → list_all e xs ≡ list_all f xs
all_same e f [] h = refl
all_same e f (x ∷ xs) h = ap (λ b. b && list_all e xs) (h x) ∙ ap (λ b. f x && b) (all_same e f xs h)

-- a conjunction by its first part
pub and_then : (a b r : Bool) → a ≡ true → r ≡ b → r ≡ (a && b)
and_then true b r e f = f
and_then false b r e f = absurd (cc)

pub and_else : (a b : Bool) → a ≡ false → false ≡ (a && b)
and_else true b e = absurd (cc)
and_else false b e = refl

-- equal sets, where one or both are made of other items
module _ (ps : List (Value × Value)) where
  pub arguments_same : (xs : List Value) → (list_all (λ x. list_any (λ q. same_value x q.0) ps) xs && list_all (λ q. member q.0 xs) ps) ≡ same_set xs (arguments ps)
  arguments_same xs =
      ap (λ b. b && list_all (λ q. member q.0 xs) ps) (all_same _ (λ x. member x (arguments ps)) xs (λ x. any_map (same_value x) (λ q. q.0) ps))
      ∙ ap (λ b. list_all (λ x. member x (arguments ps)) xs && b) (all_map _ (λ y. member y xs) (λ q. q.0) ps (λ q. refl))

  pub fields_same : (ns : List (List ℕ)) →
      (list_all (λ n. list_any (λ q. same_value (Text n) q.0) ps) ns && list_all (λ q. list_any (λ n. same_value q.0 (Text n)) ns) ps) ≡ has_fields ns ps
  fields_same ns =
      ap (λ b. b && list_all (λ q. list_any (λ n. same_value q.0 (Text n)) ns) ps)
      (all_map _ (λ x. member x (arguments ps)) (λ n. Text n) ns (λ n. any_map (same_value (Text n)) (λ q. q.0) ps))
      ∙ ap (λ b. list_all (λ x. member x (arguments ps)) (map (λ n. Text n) ns) && b)
      (all_map _ (λ y. member y (map (λ n. Text n) ns)) (λ q. q.0) ps (λ q. any_map (same_value q.0) (λ n. Text n) ns))

pub belongs_out : (f : SetForm) (v : Value) → belongs f v ≡ part_belongs (map-SetForm SetForm (Value → Bool) belongs (out-SetForm f)) v
unfolding belongs
belongs_out f v = ap (λ (b : Value → Bool). b v) (fold_out-SetForm (Value → Bool) part_belongs f)

at : (f : SetForm) (v : Value) (x : form.SetForm-F SetForm) → out-SetForm f ≡ x → belongs f v ≡ part_belongs (map-SetForm SetForm (Value → Bool) belongs x) v
at f v x e = belongs_out f v ∙ ap (λ y. part_belongs (map-SetForm SetForm (Value → Bool) belongs y) v) e

module _ (f : SetForm) (v : Value) where
  pub at_plain : (s : Value) → f ≡ Plain s → belongs f v ≡ set_passes (member v) (out-Value s)
  at_plain s e = at f v (form.Plain s) (ap out-SetForm e ∙ outs-Plain s)

  pub at_sequences : (g : SetForm) → f ≡ Sequences g → belongs f v ≡ function_passes (λ ps. passes (list_all (belongs g)) (items_of ps)) (out-Value v)
  at_sequences g e = at f v (form.Sequences g) (ap out-SetForm e ∙ outs-Sequences g)

  pub at_functions : (xs : List Value) (g : SetForm) → f ≡ Functions xs g →
      belongs f v ≡ function_passes (λ ps. same_set xs (arguments ps) && list_all (belongs g) (results ps)) (out-Value v)
  at_functions xs g e = at f v (form.Functions xs g) (ap out-SetForm e ∙ outs-Functions xs g)

  pub at_subsets : (g : SetForm) → f ≡ Subsets g → belongs f v ≡ set_passes (list_all (belongs g)) (out-Value v)
  at_subsets g e = at f v (form.Subsets g) (ap out-SetForm e ∙ outs-Subsets g)

  pub at_records : (names : List (List ℕ)) (fs : List SetForm) → f ≡ Records names fs →
      belongs f v ≡ function_passes (λ ps. has_fields names ps && all_belong fs (fields_at names ps)) (out-Value v)
  at_records names fs e = at f v (form.Records names fs) (ap out-SetForm e ∙ outs-Records names fs)

  pub at_tuples : (fs : List SetForm) → f ≡ Tuples fs → belongs f v ≡ function_passes (λ ps. passes (all_belong fs) (items_of ps)) (out-Value v)
  at_tuples fs e = at f v (form.Tuples fs) (ap out-SetForm e ∙ outs-Tuples fs)

-- ---- values by their kinds

pub set_in : (test : List Value → Bool) (s : Value) (ms : List Value) → s ≡ Set ms → test ms ≡ set_passes test (out-Value s)
set_in test s ms e = sym (ap (λ x. set_passes test (out-Value x)) e ∙ ap (set_passes test) (outs-Set ms))

pub fun_in : (test : List (Value × Value) → Bool) (v : Value) (ps : List (Value × Value)) → v ≡ Fun ps → test ps ≡ function_passes test (out-Value v)
fun_in test v ps e = sym (ap (λ x. function_passes test (out-Value x)) e ∙ ap (function_passes test) (outs-Fun ps))

pub set_out : (test : List Value → Bool) (s : Value) → ((ms : List Value) → s ≡ Set ms → ⊥) → false ≡ set_passes test (out-Value s)
set_out test s h = go (out-Value s) refl
  where
    go : (x : Layer Value) → out-Value s ≡ x → false ≡ set_passes test x
    go (layer.Set ms) e = absurd (h ms (sym (roll-out-Value s) ∙ ap roll-Value e ∙ rolls-Set ms))
    go x e = refl

pub fun_out : (test : List (Value × Value) → Bool) (v : Value) → ((ps : List (Value × Value)) → v ≡ Fun ps → ⊥) → false ≡ function_passes test (out-Value v)
fun_out test v h = go (out-Value v) refl
  where
    go : (x : Layer Value) → out-Value v ≡ x → false ≡ function_passes test x
    go (layer.Fun ps) e = absurd (h ps (sym (roll-out-Value v) ∙ ap roll-Value e ∙ rolls-Fun ps))
    go x e = refl

pub text_same : (v : Value) (n t : List ℕ) → v ≡ Text t → is_eq (text_cmp t n) ≡ same_value v (Text n)
text_same v n t e = sym (ap is_eq (by_kinds v (Text n) (layer.Text t) (layer.Text n) (ap out-Value e ∙ outs-Text t) (outs-Text n)))

pub text_other : (v : Value) (n : List ℕ) → ((t : List ℕ) → v ≡ Text t → ⊥) → false ≡ same_value v (Text n)
text_other v n h = go (out-Value v) refl
  where
    go : (x : Layer Value) → out-Value v ≡ x → false ≡ same_value v (Text n)
    go (layer.Text t) e = absurd (h t (sym (roll-out-Value v) ∙ ap roll-Value e ∙ rolls-Text t))
    go (layer.Bool b) e = sym (ap is_eq (by_kinds v (Text n) (layer.Bool b) (layer.Text n) e (outs-Text n)))
    go (layer.Int i) e = sym (ap is_eq (by_kinds v (Text n) (layer.Int i) (layer.Text n) e (outs-Text n)))
    go (layer.Set xs) e = sym (ap is_eq (by_kinds v (Text n) (layer.Set xs) (layer.Text n) e (outs-Text n)))
    go (layer.Fun ps) e = sym (ap is_eq (by_kinds v (Text n) (layer.Fun ps) (layer.Text n) e (outs-Text n)))

turned : (o : Ordering) → is_eq (ordering_reverse o) ≡ is_eq o
turned Less = refl
turned Equal = refl
turned Greater = refl

pub same_back : (a b : Value) → same_value a b ≡ same_value b a
same_back a b = ap is_eq (value_back a b) ∙ turned (value_cmp b a)

-- ---- lists of forms and of values

and_false : (a b : Bool) → b ≡ false → (a && b) ≡ false
and_false true b e = e
and_false false b e = refl

pub all_differ : (fs : List SetForm) (vs : List Value) → (length fs ≡ length vs → ⊥) → all_belong fs vs ≡ false
all_differ [] [] h = absurd (h refl)
all_differ [] (v ∷ vs) h = refl
all_differ (f ∷ fs) [] h = refl
all_differ (f ∷ fs) (v ∷ vs) h =
    and_false (belongs f v) (all_belong fs vs) (all_differ fs vs (λ e. h (ap suc e)))

pub none_left : (fs : List SetForm) (i : ℕ) → i ≤ length fs → (i == length fs) ≡ all_belong (drop i fs) []
none_left [] zero le = refl
none_left [] (suc i) le = absurd (omega arith)
none_left (f ∷ fs) zero le = grind (arith, nat_tests)
none_left (f ∷ fs) (suc i) le =
    let e : (suc i == suc (length fs)) ≡ (i == length fs) = grind (arith, nat_tests) in e ∙ none_left fs i (omega arith)

pub fields_done : (fs : List SetForm) (names : List (List ℕ)) (ps : List (Value × Value)) (i n : ℕ) → i ≤ length fs → length names ≤ n →
    all_belong fs (fields_at names ps) ≡ all_belong (drop i fs) (fields_at (drop n names) ps) →
    (i == length fs) ≡ all_belong fs (fields_at names ps)
fields_done fs names ps i n le past e =
    none_left fs i le ∙ ap (λ l. all_belong (drop i fs) (fields_at l ps)) (sym (drop_of_length-le names past)) ∙ sym e

pub items_differ : (fs : List SetForm) (ps : List (Value × Value)) → (length fs ≡ length ps → ⊥) → false ≡ all_belong fs (results ps)
items_differ fs ps h =
    let k : length (results ps) ≡ length ps = simp length-map in sym (all_differ fs (results ps) (λ e. h (e ∙ k)))
