-- Members of the sets that are made of sets: what has its parts in them is one of the members.
use Rattle.std.proofs.Common.{◌≡◌, ℕ, suc, ◌+◌, ◌⊎◌, inl, inr, ⊎_elim, Bool, true, false, ◌&&◌, ◌||◌, IsTrue, List, [], ◌∷◌, ◌++◌, map, zip, length, Option, Some, None, option_map, pos, is_some, refl, sym, ◌∙◌, ap, ap₂, subst, arith, if◌then◌else◌}
use Rattle.std.proofs.lemmas.Int.{ints}
use Rattle.std.specs.List.{AllByRecursion, list_all, cons_option}
use Rattle.std.specs.Ordering.{is_eq, ordering_reverse}
use Rattle.std.specs.declared.cmp.Ordering.{Ordering}
use Rattle.std.specs.declared.cmp.Ordering.TheVariants.{Less, Equal, Greater}
use Rattle.tla_values.specs.Order.{Layer, value_cmp, same_value}
use Rattle.tla_values.specs.Sets.{apply, arguments, function_of, member, subset}
use Rattle.tla_values.specs.declared.value.Value.{Value, out-Value, roll-Value}
use Rattle.tla_values.specs.declared.value.Value.TheVariants as value
use Rattle.tla_values.specs.declared.value.Value.TheOpen as layer
use Rattle.tla_values.specs.declared.value.Value.TheViews.{roll-out-Value}
use Rattle.tla_values.proofs.Laws.{value_back}
use Rattle.tla_values.proofs.TotalLemmas.{value_equal}
use Rattle.tla_values.proofs.Extensional.{same_equal, same_itself}
use Rattle.tla_values.proofs.SetLaws.{Rising, Above, higher, less_back}
use Rattle.tla_values.proofs.FunLaws.{apply_domain, rising_function}
use Rattle.tla_meaning.specs.Forms.{fields_at, has_fields, results}
use Rattle.tla_meaning.specs.Shapes.{with_each, choices, each_to, sublists, numbered, record_of, items_from, is_int}
use Rattle.tla_meaning.proofs.Views.{and_left, and_right, false≢true}
use Rattle.kernel_shapes.proofs.Records.{texts, apply_function}

abbrev pub OneOf : {X : Type 0} → X → List X → Type 0
OneOf x [] = ⊥
OneOf x (y ∷ ys) = (x ≡ y) ⊎ OneOf x ys

in_left : {X : Type 0} (x : X) (xs ys : List X) → OneOf x xs → OneOf x (xs ++ ys)
in_left x [] ys h = absurd h
in_left x (z ∷ xs) ys (inl e) = inl e
in_left x (z ∷ xs) ys (inr h) = inr (in_left x xs ys h)

in_right : {X : Type 0} (x : X) (xs ys : List X) → OneOf x ys → OneOf x (xs ++ ys)
in_right x [] ys h = h
in_right x (z ∷ xs) ys h = inr (in_right x xs ys h)

in_map : {X Y : Type 0} (f : X → Y) (x : X) (xs : List X) → OneOf x xs → OneOf (f x) (map f xs)
in_map f x [] h = absurd h
in_map f x (z ∷ xs) (inl e) = inl (ap f e)
in_map f x (z ∷ xs) (inr h) = inr (in_map f x xs h)

pub is_member : (v : Value) (vs : List Value) → OneOf v vs → IsTrue (member v vs)
is_member v [] h = absurd h
is_member v (u ∷ vs) (inl e) = ap (λ (b : Bool). b || member v vs) (subst (λ (z : Value). same_value v z ≡ true) e (same_itself v))
is_member v (u ∷ vs) (inr h) = by (same_value v u) (is_member v vs h)
  where
    by : (b : Bool) → IsTrue (member v vs) → IsTrue (b || member v vs)
    by true k = refl
    by false k = k

-- ---- sublists

none_below : (u : Value) (xs : List Value) → Above u xs → member u xs ≡ false
none_below u [] h = refl
none_below u (x ∷ xs) h = ap₂ (λ (a b : Bool). a || b) (ap is_eq h.0) (none_below u xs h.1)

above_all : (y : Value) (xs ys : List Value) → Above y xs → IsTrue (subset xs (y ∷ ys)) → IsTrue (subset xs ys)
above_all y [] ys h e = refl
above_all y (x ∷ xs) ys h e =
    by (same_value x y) (ap is_eq (value_back x y ∙ ap ordering_reverse h.0)) (and_left (same_value x y || member x ys) (subset xs (y ∷ ys)) e)
    (above_all y xs ys h.1 (and_right (same_value x y || member x ys) (subset xs (y ∷ ys)) e))
  where
    by : (b : Bool) → b ≡ false → IsTrue (b || member x ys) → IsTrue (subset xs ys) → IsTrue (member x ys && subset xs ys)
    by true f k r = absurd (false≢true (sym f))
    by false f k r = ap₂ (λ (a b : Bool). a && b) k r

-- a rising list of members is one of the sublists
pub sublist_there : (xs vs : List Value) → Rising xs → Rising vs → IsTrue (subset vs xs) → OneOf vs (sublists xs)
sublist_there [] [] r s e = inl refl
sublist_there [] (v ∷ vs) r s e = absurd (false≢true e)
sublist_there (x ∷ xs) [] r s e = in_left [] (sublists xs) (map (λ ys. x ∷ ys) (sublists xs)) (sublist_there xs [] r.1 tt refl)
sublist_there (x ∷ xs) (v ∷ vs) r s e =
    by (value_cmp v x) refl (λ h. sublist_there xs vs r.1 s.1 h) (λ h. sublist_there xs (v ∷ vs) r.1 s h)
  where
    first : IsTrue (same_value v x || member v xs)
    first = and_left (same_value v x || member v xs) (subset vs (x ∷ xs)) e

    rest : IsTrue (subset vs (x ∷ xs))
    rest = and_right (same_value v x || member v xs) (subset vs (x ∷ xs)) e

    by : (o : Ordering) → value_cmp v x ≡ o → (IsTrue (subset vs xs) → OneOf vs (sublists xs)) → (IsTrue (subset (v ∷ vs) xs) → OneOf (v ∷ vs) (sublists xs)) →
        OneOf (v ∷ vs) (sublists xs ++ map (λ ys. x ∷ ys) (sublists xs))
    by Less f k l =
        let gone : member v (x ∷ xs) ≡ false = none_below v (x ∷ xs) (f, higher v x xs f r.0) in
        absurd (false≢true (sym gone ∙ first))
    by Equal f k l =
        let same : v ≡ x = value_equal v x f in
        let sub : IsTrue (subset vs xs) = above_all x vs xs (subst (λ (u : Value). Above u vs) same s.0) rest in
        in_right (v ∷ vs) (sublists xs) (map (λ ys. x ∷ ys) (sublists xs))
        (subst (λ (u : Value). OneOf (u ∷ vs) (map (λ ys. x ∷ ys) (sublists xs))) (sym same) (in_map (λ ys. x ∷ ys) vs (sublists xs) (k sub)))
    by Greater f k l =
        let b : value_cmp x v ≡ Less = less_back v x f in
        in_left (v ∷ vs) (sublists xs) (map (λ ys. x ∷ ys) (sublists xs)) (l (above_all x (v ∷ vs) xs (b, higher x v vs b s.0) e))

-- ---- one of each

abbrev pub AllIn : List Value → List Value → Type 0
AllIn ts rs = AllByRecursion (λ r. IsTrue (member r ts)) rs

with_there : (t : Value) (ts : List Value) (rs : List Value) (yss : List (List Value)) → IsTrue (member t ts) → OneOf rs yss → OneOf (t ∷ rs) (with_each ts yss)
with_there t [] rs yss e h = absurd (false≢true e)
with_there t (x ∷ ts) rs yss e h = by (same_value t x) refl e (λ k. with_there t ts rs yss k h)
  where
    by : (b : Bool) → same_value t x ≡ b → IsTrue (b || member t ts) → (IsTrue (member t ts) → OneOf (t ∷ rs) (with_each ts yss)) →
        OneOf (t ∷ rs) (map (λ ys. x ∷ ys) yss ++ with_each ts yss)
    by true f k r =
        in_left (t ∷ rs) (map (λ ys. x ∷ ys) yss) (with_each ts yss)
        (subst (λ (u : Value). OneOf (u ∷ rs) (map (λ ys. x ∷ ys) yss)) (sym (same_equal t x f)) (in_map (λ ys. x ∷ ys) rs yss h))
    by false f k r = in_right (t ∷ rs) (map (λ ys. x ∷ ys) yss) (with_each ts yss) (r k)

pub each_there : (xs ts rs : List Value) → length xs ≡ length rs → AllIn ts rs → OneOf rs (each_to xs ts)
each_there [] ts [] e h = inl refl
each_there [] ts (r ∷ rs) e h = absurd (none e)
  where
    none : 0 ≡ suc (length rs) → ⊥
    none q = omega (arith, q)
each_there (x ∷ xs) ts [] e h = absurd (none e)
  where
    none : suc (length xs) ≡ 0 → ⊥
    none q = omega (arith, q)
each_there (x ∷ xs) ts (r ∷ rs) e h = with_there r ts rs (each_to xs ts) h.0 (each_there xs ts rs (less (length xs) (length rs) e) h.1)
  where
    less : (m n : ℕ) → suc m ≡ suc n → m ≡ n
    less m n q = omega (arith, q)

-- each value in its set
abbrev pub InSets : List (List Value) → List Value → Type 0
InSets [] [] = Unit {0}
InSets (xs ∷ xss) (v ∷ vs) = IsTrue (member v xs) × InSets xss vs
InSets [] (v ∷ vs) = ⊥
InSets (xs ∷ xss) [] = ⊥

pub choice_there : (xss : List (List Value)) (vs : List Value) → InSets xss vs → OneOf vs (choices xss)
choice_there [] [] h = inl refl
choice_there [] (v ∷ vs) h = absurd h
choice_there (xs ∷ xss) [] h = absurd h
choice_there (xs ∷ xss) (v ∷ vs) h = with_there v xs vs (choices xss) h.0 (choice_there xss vs h.1)

pub made_member : (make : List Value → Value) (vs : List Value) (yss : List (List Value)) → OneOf vs yss → IsTrue (member (make vs) (map make yss))
made_member make vs yss h = is_member (make vs) (map make yss) (in_map make vs yss h)

-- ---- functions by their arguments and results

abbrev Pair : Type 0
Pair = Value × Value

pub zip_back : (ps : List Pair) → zip (arguments ps) (results ps) ≡ ps
zip_back [] = refl
zip_back (p ∷ ps) = ap (λ (l : List Pair). p ∷ l) (zip_back ps)

pub as_many_results : (ps : List Pair) → length (arguments ps) ≡ length (results ps)
as_many_results [] = refl
as_many_results (p ∷ ps) = ap suc (as_many_results ps)

int_back : (v : Value) (n : ℕ) → IsTrue (is_int n (out-Value v)) → v ≡ value.Int (pos n)
int_back v n e = by (out-Value v) refl e
  where
    by : (x : Layer Value) → out-Value v ≡ x → IsTrue (is_int n x) → v ≡ value.Int (pos n)
    by (layer.Int m) f k =
        let s : m ≡ pos n = grind (arith, ints) in
        sym (roll-out-Value v) ∙ ap roll-Value f ∙ value.rolls-Int m ∙ ap value.Int s
    by (layer.Bool b) f k = absurd (false≢true k)
    by (layer.Text b) f k = absurd (false≢true k)
    by (layer.Set b) f k = absurd (false≢true k)
    by (layer.Fun b) f k = absurd (false≢true k)

-- a sequence is made of its items
pub items_back : (n : ℕ) (ps : List Pair) (vs : List Value) → items_from n ps ≡ Some vs → ps ≡ numbered n vs
items_back n [] vs e = by vs e
  where
    empty : List Value
    empty = []

    other : (v : Value) (vs : List Value) → Some empty ≡ Some (v ∷ vs) → ⊥
    other v vs q = cc

    by : (vs : List Value) → Some empty ≡ Some vs → [] ≡ numbered n vs
    by [] q = refl
    by (v ∷ vs) q = absurd (other v vs q)
items_back n (p ∷ ps) vs e = by (is_int n (out-Value p.0)) refl (items_from (n + 1) ps) refl e (λ us q. items_back (n + 1) ps us q)
  where
    by : (b : Bool) → is_int n (out-Value p.0) ≡ b → (o : Option (List Value)) → items_from (n + 1) ps ≡ o → (if b then option_map (λ xs. p.1 ∷ xs) o else None) ≡ Some vs →
        ((us : List Value) → items_from (n + 1) ps ≡ Some us → ps ≡ numbered (n + 1) us) → p ∷ ps ≡ numbered n vs
    by false f o g q r = absurd cc
    by true f None g q r = absurd cc
    by true f (Some us) g q r =
        let same : p.1 ∷ us ≡ vs = cc in
        let key : p.0 ≡ value.Int (pos n) = int_back p.0 n f in
        let rest : ps ≡ numbered (n + 1) us = r us g in
        (λ i. (key i, p.1) ∷ rest i) ∙ ap (numbered n) same

-- ---- functions that give the same are the same

no_value : (o : Option Value) → is_some o ≡ false → o ≡ None
no_value None e = refl
no_value (Some x) e = absurd (cc)

apply_below : (a : Value) (ps : List Pair) → Above a (arguments ps) → apply ps a ≡ None
apply_below a ps h = no_value (apply ps a) (apply_domain a ps ∙ none_below a (arguments ps) h)

hit : (p : Pair) (ps : List Pair) → apply (p ∷ ps) p.0 ≡ Some p.1
hit p ps = ap (λ (b : Bool). if b then Some p.1 else apply ps p.0) (same_itself p.0)

some_is : (x y : Value) → Some x ≡ Some y → x ≡ y
some_is x y e = cc

rest_same : (p q : Pair) (ps qs : List Pair) → p.0 ≡ q.0 → Above p.0 (arguments ps) → Above q.0 (arguments qs)
    → ((a : Value) → apply (p ∷ ps) a ≡ apply (q ∷ qs) a) → (a : Value) → apply ps a ≡ apply qs a
rest_same p q ps qs k r s h a = go (same_value a p.0) refl
  where
    go : (b : Bool) → same_value a p.0 ≡ b → apply ps a ≡ apply qs a
    go true e =
        let x : a ≡ p.0 = same_equal a p.0 e in
        ap (apply ps) x ∙ apply_below p.0 ps r ∙ sym (apply_below q.0 qs s) ∙ ap (apply qs) (sym (x ∙ k))
    go false e =
        let f : same_value a q.0 ≡ false = ap (λ y. same_value a y) (sym k) ∙ e in
        sym (ap (λ b. if b then Some p.1 else apply ps a) e) ∙ h a ∙ ap (λ b. if b then Some q.1 else apply qs a) f

same_functions : (ps qs : List Pair) → Rising (arguments ps) → Rising (arguments qs) → ((a : Value) → apply ps a ≡ apply qs a) → ps ≡ qs
same_functions [] [] r s h = refl
same_functions [] (q ∷ qs) r s h = let k : None ≡ Some q.1 = h q.0 ∙ hit q qs in absurd (cc)
same_functions (p ∷ ps) [] r s h = let k : None ≡ Some p.1 = sym (h p.0) ∙ hit p ps in absurd (cc)
same_functions (p ∷ ps) (q ∷ qs) r s h =
    at (value_cmp p.0 q.0) refl (λ k. same_functions ps qs r.1 s.1 (rest_same p q ps qs k r.0 s.0 h))
  where
    at : (o : Ordering) → value_cmp p.0 q.0 ≡ o → (p.0 ≡ q.0 → ps ≡ qs) → (p ∷ ps) ≡ (q ∷ qs)
    at Less e go =
        let k : None ≡ Some p.1 = sym (apply_below p.0 (q ∷ qs) (e, higher p.0 q.0 (arguments qs) e s.0)) ∙ sym (h p.0) ∙ hit p ps in absurd (cc)
    at Greater e go =
        let b = less_back p.0 q.0 e in
        let k : None ≡ Some q.1 = sym (apply_below q.0 (p ∷ ps) (b, higher q.0 p.0 (arguments ps) b r.0)) ∙ h q.0 ∙ hit q qs in absurd (cc)
    at Equal e go =
        let k : p.0 ≡ q.0 = value_equal p.0 q.0 e in
        let v : p.1 ≡ q.1 = some_is p.1 q.1 (sym (hit p ps) ∙ h p.0 ∙ ap (apply (q ∷ qs)) k ∙ hit q qs) in
        let pq : p ≡ q = λ i. (k i, v i) in
        ap (λ x. x ∷ ps) pq ∙ ap (λ l. q ∷ l) (go k)

-- ---- records

-- the values of fields that are there
module _ (ps : List Pair) where
  abbrev IsThere : List ℕ → Type 0
  IsThere n = (v : Value) × (apply ps (value.Text n) ≡ Some v)

  abbrev AllThere : List (List ℕ) → Type 0
  AllThere [] = Unit {0}
  AllThere (n ∷ ns) = IsThere n × AllThere ns

  there_of : (n : List ℕ) → IsTrue (member (value.Text n) (arguments ps)) → IsThere n
  there_of n e = by (apply ps (value.Text n)) refl (apply_domain (value.Text n) ps ∙ e)
    where
      by : (o : Option Value) → apply ps (value.Text n) ≡ o → is_some (apply ps (value.Text n)) ≡ true → IsThere n
      by (Some v) f k = (v, f)
      by None f k = absurd (false≢true (sym (ap is_some f) ∙ k))

  all_there_of : (ns : List (List ℕ)) → IsTrue (list_all (λ x. member x (arguments ps)) (texts ns)) → AllThere ns
  all_there_of [] e = tt
  all_there_of (n ∷ ns) e = (
    there_of n (and_left (member (value.Text n) (arguments ps)) (list_all (λ x. member x (arguments ps)) (texts ns)) e),
    all_there_of ns (and_right (member (value.Text n) (arguments ps)) (list_all (λ x. member x (arguments ps)) (texts ns)) e),
  )

  fields_step : (n : List ℕ) (ns : List (List ℕ)) (v : Value) → apply ps (value.Text n) ≡ Some v → fields_at (n ∷ ns) ps ≡ v ∷ fields_at ns ps
  fields_step n ns v e = ap (λ (o : Option Value). cons_option o (fields_at ns ps)) e

  -- the record of the fields' values gives what the function gives
  gives_same : (ns : List (List ℕ)) → AllThere ns → (a : Value) → ((member a (texts ns) ≡ false) × (apply (zip (texts ns) (fields_at ns ps)) a ≡ None)) ⊎ (apply (zip (texts ns) (fields_at ns ps)) a ≡ apply ps a)
  gives_same [] h a = inl (refl, refl)
  gives_same (n ∷ ns) h a =
      subst (λ (vs : List Value). ((member a (texts (n ∷ ns)) ≡ false) × (apply (zip (texts (n ∷ ns)) vs) a ≡ None)) ⊎ (apply (zip (texts (n ∷ ns)) vs) a ≡ apply ps a)) (sym (fields_step n ns h.0.0 h.0.1))
      (by (same_value a (value.Text n)) refl (gives_same ns h.1 a))
    where
      zs : List Pair
      zs = zip (texts ns) (fields_at ns ps)

      by : (b : Bool) → same_value a (value.Text n) ≡ b → ((member a (texts ns) ≡ false) × (apply zs a ≡ None)) ⊎ (apply zs a ≡ apply ps a) →
          ((b || member a (texts ns) ≡ false) × ((if b then Some h.0.0 else apply zs a) ≡ None)) ⊎ ((if b then Some h.0.0 else apply zs a) ≡ apply ps a)
      by true e r = inr (sym (ap (apply ps) (same_equal a (value.Text n) e) ∙ h.0.1))
      by false e r = r

  none_there : (ns : List (List ℕ)) (a : Value) → IsTrue (list_all (λ y. member y (texts ns)) (arguments ps)) → member a (texts ns) ≡ false → apply ps a ≡ None
  none_there ns a e f = no_value (apply ps a) (apply_domain a ps ∙ by (arguments ps) e)
    where
      by : (xs : List Value) → IsTrue (list_all (λ y. member y (texts ns)) xs) → member a xs ≡ false
      by [] e = refl
      by (x ∷ xs) e = test (same_value a x) refl (by xs (and_right (member x (texts ns)) (list_all (λ y. member y (texts ns)) xs) e))
        where
          test : (b : Bool) → same_value a x ≡ b → member a xs ≡ false → (b || member a xs) ≡ false
          test false g r = r
          test true g r =
              let m : IsTrue (member x (texts ns)) = and_left (member x (texts ns)) (list_all (λ y. member y (texts ns)) xs) e in
              absurd (false≢true (sym f ∙ subst (λ (z : Value). member z (texts ns) ≡ true) (sym (same_equal a x g)) m))

  pub record_back : (ns : List (List ℕ)) → IsTrue (has_fields ns ps) → Rising (arguments ps) → record_of ns (fields_at ns ps) ≡ value.Fun ps
  record_back ns e r =
      let e0 = and_left (list_all (λ x. member x (arguments ps)) (texts ns)) (list_all (λ y. member y (texts ns)) (arguments ps)) e in
      let e1 = and_right (list_all (λ x. member x (arguments ps)) (texts ns)) (list_all (λ y. member y (texts ns)) (arguments ps)) e in
      let zs : List Pair = zip (texts ns) (fields_at ns ps) in
      ap value.Fun (same_functions (function_of zs) ps (rising_function zs) r (λ a.
      apply_function zs a ∙ ⊎_elim (λ h. h.1 ∙ sym (none_there ns a e1 h.0)) (λ h. h) (gives_same ns (all_there_of ns e0) a)))
