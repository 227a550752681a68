-- Functions of pairs in any order, by what they give.
use Rattle.std.proofs.Common.{◌≡◌, ℕ, ◌+◌, ◌<◌, Bool, true, false, ◌&&◌, ◌||◌, not, List, [], ◌∷◌, ◌++◌, map, length, get_or, zero, suc, refl, ap, ◌∙◌, sym, subst, arith, Option, Some, cond}
use Rattle.std.specs.List.{zip}
use Rattle.std.specs.Ordering.{is_eq}
use Rattle.std.specs.declared.cmp.Ordering.{Ordering}
use Rattle.std.specs.declared.cmp.Ordering.TheVariants.{Less, Equal, Greater}
use Rattle.tla_values.specs.Order.{Layer, value_cmp, same_value}
use Rattle.tla_values.specs.Sequences.{numbered, sequence}
use Rattle.tla_values.specs.Sets.{apply, by_order, distinct, function_of, insert_pair, member}
use Rattle.tla_values.specs.declared.value.Value.{Value, out-Value}
use Rattle.tla_values.specs.declared.value.Value.TheVariants as value
use Rattle.tla_values.specs.declared.value.Value.TheVariants.{outs-Fun}
use Rattle.tla_values.specs.declared.value.Value.TheOpen as layer
use Rattle.tla_values.proofs.Extensional.{same_equal, same_itself, true_test}
use Rattle.tla_values.proofs.TotalLemmas.{value_equal}
use Rattle.tla_values.proofs.SetLaws.{less_back}
use Rattle.cell_merge.specs.inner.Composites.{each_same}

abbrev Pair : Type 0
Pair = Value × Value

-- ---- what a function gives with one more pair

swapped : (b c : Bool) (x y z : Option Value) → (c ≡ true → b ≡ false) → cond c x (cond b y z) ≡ cond b y (cond c x z)
swapped true true x y z h = let k = h refl in absurd (cc)
swapped true false x y z h = refl
swapped false c x y z h = refl

apart_keys : (a b c : Value) → value_cmp b c ≡ Greater → same_value a c ≡ true → same_value a b ≡ false
apart_keys a b c e h =
    let q : a ≡ c = same_equal a c h in
    ap (λ x. same_value x b) q ∙ ap is_eq (less_back b c e)

at_order : (q p : Pair) (ps rs : List Pair) (a : Value) (o : Ordering) → value_cmp q.0 p.0 ≡ o →
    apply rs a ≡ cond (same_value a q.0) (Some q.1) (apply ps a) →
    apply (by_order o (q ∷ p ∷ ps) (q ∷ ps) (p ∷ rs)) a ≡ cond (same_value a q.0) (Some q.1) (apply (p ∷ ps) a)
at_order q p ps rs a Less e h = refl
at_order q p ps rs a Equal e h = over (same_value a q.0) refl
  where
    over : (b : Bool) → same_value a q.0 ≡ b → cond b (Some q.1) (apply ps a) ≡ cond b (Some q.1) (apply (p ∷ ps) a)
    over true k = refl
    over false k =
        let s : same_value a p.0 ≡ false = ap (λ x. same_value a x) (sym (value_equal q.0 p.0 e)) ∙ k in
        sym (ap (λ c. cond c (Some p.1) (apply ps a)) s)
at_order q p ps rs a Greater e h =
    ap (λ o. cond (same_value a p.0) (Some p.1) o) h
    ∙ swapped (same_value a q.0) (same_value a p.0) (Some p.1) (Some q.1) (apply ps a) (apart_keys a q.0 p.0 e)

pub apply_insert : (q : Pair) (ps : List Pair) (a : Value) → apply (insert_pair q ps) a ≡ cond (same_value a q.0) (Some q.1) (apply ps a)
apply_insert q [] a = refl
apply_insert q (p ∷ ps) a = at_order q p ps (insert_pair q ps) a (value_cmp q.0 p.0) refl (apply_insert q ps a)

pub apply_function : (ps : List Pair) (a : Value) → apply (function_of ps) a ≡ apply ps a
apply_function [] a = refl
apply_function (p ∷ ps) a = apply_insert p (function_of ps) a ∙ ap (λ o. cond (same_value a p.0) (Some p.1) o) (apply_function ps a)

-- ---- equal functions have the same pairs

pairs_here : Layer Value → List Pair
pairs_here (layer.Bool b) = []
pairs_here (layer.Int n) = []
pairs_here (layer.Text t) = []
pairs_here (layer.Set xs) = []
pairs_here (layer.Fun ps) = ps

pub fun_one : (ps qs : List Pair) → value.Fun ps ≡ value.Fun qs → ps ≡ qs
unfolding pairs_here
fun_one ps qs e = sym (ap pairs_here (outs-Fun ps)) ∙ ap (λ v. pairs_here (out-Value v)) e ∙ ap pairs_here (outs-Fun qs)

-- ---- the items of lists, each with each

first_so : (p q : Bool) → (p && q) ≡ true → p ≡ true
first_so true q e = refl
first_so false q e = absurd (cc)

pub rest_so : (p q : Bool) → (p && q) ≡ true → q ≡ true
rest_so true q e = e
rest_so false q e = absurd (cc)

pub each_push : (vs ws : List Value) (v w : Value) → length vs ≡ length ws → each_same (vs ++ v ∷ []) (ws ++ w ∷ []) ≡ (each_same vs ws && same_value v w)
each_push [] [] v w n = last (same_value v w)
  where
    last : (p : Bool) → (p && true) ≡ p
    last true = refl
    last false = refl
each_push [] (y ∷ ws) v w n = absurd (omega arith)
each_push (x ∷ vs) [] v w n = absurd (omega arith)
each_push (x ∷ vs) (y ∷ ws) v w n = ap (λ t. same_value x y && t) (each_push vs ws v w (omega arith)) ∙ both (same_value x y)
  where
    both : (p : Bool) → (p && (each_same vs ws && same_value v w)) ≡ ((p && each_same vs ws) && same_value v w)
    both true = refl
    both false = refl

pub each_equal : (vs ws : List Value) → each_same vs ws ≡ true → vs ≡ ws
each_equal [] [] e = refl
each_equal [] (w ∷ ws) e = absurd (cc)
each_equal (v ∷ vs) [] e = absurd (cc)
each_equal (v ∷ vs) (w ∷ ws) e = ap (λ x. x ∷ vs) (same_equal v w (first_so _ _ e)) ∙ ap (λ l. w ∷ l) (each_equal vs ws (rest_so _ _ e))

pub each_itself : (vs : List Value) → each_same vs vs ≡ true
each_itself [] = refl
each_itself (v ∷ vs) = ap (λ b. b && each_same vs vs) (same_itself v) ∙ each_itself vs

-- what is made of lists of values in one way, and not of different ones in the same way
pub same_made : (make : List Value → Value) (vs ws : List Value) → (make vs ≡ make ws → vs ≡ ws) → same_value (make vs) (make ws) ≡ each_same vs ws
same_made make vs ws one = true_test _ _
    (λ e. subst (λ l. each_same vs l ≡ true) (one (same_equal (make vs) (make ws) e)) (each_itself vs))
    (λ e. subst (λ l. same_value (make vs) (make l) ≡ true) (each_equal vs ws e) (same_itself (make vs)))

-- ---- tuples

pub results-numbered : (n : ℕ) (vs : List Value) → map (λ (p : Pair). p.1) (numbered n vs) ≡ vs
results-numbered n [] = refl
results-numbered n (v ∷ vs) = ap (λ l. v ∷ l) (results-numbered (n + 1) vs)

pub tuple_one : (vs ws : List Value) → sequence vs ≡ sequence ws → vs ≡ ws
tuple_one vs ws e =
    sym (results-numbered 1 vs) ∙ ap (map (λ (p : Pair). p.1)) (fun_one (numbered 1 vs) (numbered 1 ws) e) ∙ results-numbered 1 ws

-- ---- records

some_is : (x y : Value) → Some x ≡ Some y → x ≡ y
some_is x y e = cc

pub hit : (p : Pair) (ps : List Pair) → apply (p ∷ ps) p.0 ≡ Some p.1
hit p ps = ap (λ b. cond b (Some p.1) (apply ps p.0)) (same_itself p.0)

pub not_member : (x : Value) (xs : List Value) → (not (member x xs) && distinct xs) ≡ true → member x xs ≡ false
not_member x xs h = turned (member x xs) h
  where
    turned : (b : Bool) → (not b && distinct xs) ≡ true → b ≡ false
    turned true e = absurd (cc)
    turned false e = refl

pub head_so : (p q : Bool) → (p || q) ≡ false → p ≡ false
head_so true q e = absurd (cc)
head_so false q e = refl

pub last_so : (p q : Bool) → (p || q) ≡ false → q ≡ false
last_so true q e = absurd (cc)
last_so false q e = e

apart_turned : (x y : Value) → same_value x y ≡ false → same_value y x ≡ false
apart_turned x y e = go (same_value y x) refl
  where
    go : (b : Bool) → same_value y x ≡ b → b ≡ false
    go false k = refl
    go true k = absurd (let f : true ≡ false = sym (subst (λ z. same_value x z ≡ true) (sym (same_equal y x k)) (same_itself x)) ∙ e in cc)

-- what does not stand among values is none of them
pub differ_at : (x : Value) (ys : List Value) (i : ℕ) (d : Value) → member x ys ≡ false → i < length ys → same_value (get_or ys i d) x ≡ false
differ_at x [] i d m lt = absurd (omega arith)
differ_at x (y ∷ ys) zero d m lt = apart_turned x y (head_so _ _ m)
differ_at x (y ∷ ys) (suc i) d m lt = differ_at x ys i d (last_so _ _ m) (omega arith)

-- what stands at a place of the arguments gives the result at that place
pub apply_zip : (xs vs : List Value) (i : ℕ) (d : Value) → distinct xs ≡ true → length vs ≡ length xs → i < length xs → apply (zip xs vs) (get_or xs i d) ≡ Some (get_or vs i d)
apply_zip [] vs i d h n lt = absurd (omega arith)
apply_zip (x ∷ xs) [] i d h n lt = absurd (omega arith)
apply_zip (x ∷ xs) (v ∷ vs) zero d h n lt = hit (x, v) (zip xs vs)
apply_zip (x ∷ xs) (v ∷ vs) (suc i) d h n lt =
    ap (λ b. cond b (Some v) (apply (zip xs vs) (get_or xs i d))) (differ_at x xs i d (not_member x xs h) (omega arith))
    ∙ apply_zip xs vs i d (rest_so _ _ h) (omega arith) (omega arith)

pub lists_one : (vs ws : List Value) (d : Value) → length vs ≡ length ws → ((i : ℕ) → i < length vs → get_or vs i d ≡ get_or ws i d) → vs ≡ ws
lists_one [] [] d n h = refl
lists_one [] (w ∷ ws) d n h = absurd (omega arith)
lists_one (v ∷ vs) [] d n h = absurd (omega arith)
lists_one (v ∷ vs) (w ∷ ws) d n h = ap (λ x. x ∷ vs) (h zero (omega arith)) ∙ ap (λ l. w ∷ l) (lists_one vs ws d (omega arith) (λ i lt. h (suc i) (omega arith)))

pub record_one : (xs vs ws : List Value) → distinct xs ≡ true → length vs ≡ length xs → length ws ≡ length xs
    → value.Fun (function_of (zip xs vs)) ≡ value.Fun (function_of (zip xs ws)) → vs ≡ ws
record_one xs vs ws h n m e =
    let same : function_of (zip xs vs) ≡ function_of (zip xs ws) = fun_one _ _ e in
    let d : Value = value.Bool false in
    lists_one vs ws d (omega arith) (λ i lt.
    let le : i < length xs = omega arith in
    some_is _ _ (sym (apply_zip xs vs i d h n le) ∙ sym (apply_function (zip xs vs) (get_or xs i d))
    ∙ ap (λ l. apply l (get_or xs i d)) same ∙ apply_function (zip xs ws) (get_or xs i d) ∙ apply_zip xs ws i d h m le))
