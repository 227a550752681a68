-- Functions by their graphs: the pairs of each argument with its result.
use Rattle.std.proofs.Common.{◌≡◌, Bool, true, false, ◌&&◌, ◌||◌, not, List, [], ◌∷◌, ◌++◌, map, length, get_or, drop, refl, ap, ◌∙◌, sym, subst, arith, cond, Option, Some, None}
use Rattle.std.specs.Prelude.{if◌then◌else◌}
use Rattle.std.specs.Option.{is_some}
use Rattle.std.specs.Ordering.{is_eq}
use Rattle.tla_values.specs.Order.{same_value}
use Rattle.tla_values.specs.Sets.{apply, insert, set_of, arguments, function_of, member, subset}
use Rattle.tla_values.specs.Sequences.{sequence}
use Rattle.tla_values.specs.declared.value.Value.{Value}
use Rattle.tla_values.specs.declared.value.Value.TheVariants as value
use Rattle.tla_values.proofs.Extensional.{same_equal, same_itself, true_test, members_of, same_members, set_of_rising, Rising as Rises}
use Rattle.tla_values.proofs.SetLaws.{Rising, Above}
use Rattle.tla_values.proofs.FunLaws.{apply_domain, rising_function, arguments_insert}
use Rattle.cell_merge.specs.inner.Items.{kept, pair_value, gives, IsGraph}
use Rattle.cell_merge.proofs.FunctionValues.{apply_function, fun_one, same_made, tuple_one, hit, rest_so}
use Rattle.cell_merge.proofs.Kept.{member-more, kept-push}

abbrev pub Pair : Type 0
Pair = Value × Value

abbrev pub of_pair : Pair → Value
of_pair p = pair_value p.0 p.1

abbrev IsPair : Value → Type 0
IsPair v = (p : Pair) × (v ≡ of_pair p)

first_so : (p q : Bool) → (p && q) ≡ true → p ≡ true
first_so true q e = refl
first_so false q e = absurd (cc)

pub pair-same : (u w x y : Value) → same_value (pair_value u w) (pair_value x y) ≡ (same_value u x && same_value w y)
pair-same u w x y = same_made sequence (u ∷ w ∷ []) (x ∷ y ∷ []) (tuple_one (u ∷ w ∷ []) (x ∷ y ∷ [])) ∙ ap (λ t. same_value u x && t) (last (same_value w y))
  where
    last : (p : Bool) → (p && true) ≡ p
    last true = refl
    last false = refl

-- ---- one arrow more

apply-push : (ps : List (Value × Value)) (x y u : Value) → apply (ps ++ (x, y) ∷ []) u ≡ cond (is_some (apply ps u)) (apply ps u) (cond (same_value u x) (Some y) None)
apply-push [] x y u = refl
apply-push (p ∷ ps) x y u = split (same_value u p.0) (apply-push ps x y u)
  where
    split : (b : Bool) → apply (ps ++ (x, y) ∷ []) u ≡ cond (is_some (apply ps u)) (apply ps u) (cond (same_value u x) (Some y) None)
        → cond b (Some p.1) (apply (ps ++ (x, y) ∷ []) u) ≡ cond (is_some (cond b (Some p.1) (apply ps u))) (cond b (Some p.1) (apply ps u)) (cond (same_value u x) (Some y) None)
    split true h = refl
    split false h = h

-- the pairs with one more where it is there
abbrev pub with_pair : Bool → List (Value × Value) → Value → Value → List (Value × Value)
with_pair l ps x y = if l then ps ++ (x, y) ∷ [] else ps

apart : (b c : Bool) → b ≡ true → c ≡ true → (not b) ≡ c → ⊥
apart true c e f g = let h : false ≡ true = g ∙ f in cc
apart false c e f g = cc

-- an arrow that is there where no earlier one has its argument
graph-step : (ps : List (Value × Value)) (l : Bool) (x y u w : Value)
    → (gives (apply ps u) w || ((l && not (member x (arguments ps))) && (same_value u x && same_value w y))) ≡ gives (apply (with_pair l ps x y) u) w
graph-step ps false x y u w = last (gives (apply ps u) w)
  where
    last : (p : Bool) → (p || false) ≡ p
    last true = refl
    last false = refl
graph-step ps true x y u w =
    go (same_value u x) refl ∙ sym (ap (λ o. gives o w) (apply-push ps x y u))
  where
    here : (o : Option Value) → is_some o ≡ member x (arguments ps) → (gives o w || (not (member x (arguments ps)) && same_value w y)) ≡ gives (cond (is_some o) o (Some y)) w
    here None e = ap (λ t. not t && same_value w y) (sym e)
    here (Some z) e = ap (λ t. same_value w z || (not t && same_value w y)) (sym e) ∙ last (same_value w z)
      where
        last : (p : Bool) → (p || false) ≡ p
        last true = refl
        last false = refl

    there : (o : Option Value) (t : Bool) → (gives o w || (t && false)) ≡ gives (cond (is_some o) o None) w
    there None true = refl
    there None false = refl
    there (Some z) t = last (same_value w z) t
      where
        last : (p t : Bool) → (p || (t && false)) ≡ p
        last true t = refl
        last false true = refl
        last false false = refl

    go : (b : Bool) → same_value u x ≡ b → (gives (apply ps u) w || (not (member x (arguments ps)) && (same_value u x && same_value w y))) ≡ gives (cond (is_some (apply ps u)) (apply ps u) (cond (same_value u x) (Some y) None)) w
    go true e =
        rw e (here (apply ps u) (apply_domain u ps ∙ ap (λ v. member v (arguments ps)) (same_equal u x e)))
    go false e = rw e (there (apply ps u) (not (member x (arguments ps))))

pub graph-none : IsGraph [] [] []
graph-none u w = refl

pub graph-more : (bs : List Bool) (vs : List Value) (ps : List (Value × Value)) (l : Bool) (x y : Value) → IsGraph bs vs ps → length bs ≡ length vs
    → IsGraph (bs ++ (l && not (member x (arguments ps))) ∷ []) (vs ++ pair_value x y ∷ []) (with_pair l ps x y)
graph-more bs vs ps l x y h n u w =
    let t : Bool = l && not (member x (arguments ps)) in
    ap (member (pair_value u w)) (kept-push bs vs t (pair_value x y) n)
    ∙ member-more (pair_value u w) (pair_value x y) t (kept bs vs)
    ∙ ap (λ b. b || (t && same_value (pair_value u w) (pair_value x y))) (h u w)
    ∙ ap (λ b. gives (apply ps u) w || (t && b)) (pair-same u w x y)
    ∙ graph-step ps l x y u w

-- ---- functions with one graph

some_one : (x y : Value) → Some x ≡ Some y → x ≡ y
some_one x y e = cc

above-none : (u : Value) (xs : List Value) → Above u xs → member u xs ≡ false
above-none u [] h = refl
above-none u (x ∷ xs) h = ap (λ o. is_eq o || member u xs) h.0 ∙ above-none u xs h.1

none-of : (o : Option Value) → is_some o ≡ false → o ≡ None
none-of None e = refl
none-of (Some z) e = absurd (cc)

arguments-function : (ps : List Pair) → arguments (function_of ps) ≡ set_of (arguments ps)
arguments-function [] = refl
arguments-function (p ∷ ps) = arguments_insert p (function_of ps) ∙ ap (insert p.0) (arguments-function ps)

-- where they give the same everywhere they have one list of pairs
same-pairs : (ps qs : List Pair) → arguments ps ≡ arguments qs → Rising (arguments ps) → ((u : Value) → apply ps u ≡ apply qs u) → ps ≡ qs
same-pairs [] [] e r h = refl
same-pairs [] (q ∷ qs) e r h = absurd (let n : 0 ≡ length (q.0 ∷ arguments qs) = ap length e in omega arith)
same-pairs (p ∷ ps) [] e r h = absurd (let n : length (p.0 ∷ arguments ps) ≡ 0 = ap length e in omega arith)
same-pairs (p ∷ ps) (q ∷ qs) e r h =
    let first : p.0 ≡ q.0 = ap (λ (l : List Value). get_or l 0 p.0) e in
    let rest : arguments ps ≡ arguments qs = ap (λ (l : List Value). drop 1 l) e in
    let result : p.1 ≡ q.1 = some_one p.1 q.1 (sym (hit p ps) ∙ h p.0 ∙ ap (apply (q ∷ qs)) first ∙ hit q qs) in
    let gone : member p.0 (arguments ps) ≡ false = above-none p.0 (arguments ps) r.0 in
    let left : apply ps p.0 ≡ None = none-of (apply ps p.0) (apply_domain p.0 ps ∙ gone) in
    let right : apply qs p.0 ≡ None = none-of (apply qs p.0) (apply_domain p.0 qs ∙ ap (member p.0) (sym rest) ∙ gone) in
    let tails : ps ≡ qs = same-pairs ps qs rest r.1 (λ u. at u (same_value u p.0) refl first (left ∙ sym right)) in
    ap (λ l. p ∷ l) tails ∙ ap (λ (v : Value). (v, p.1) ∷ qs) first ∙ ap (λ (v : Value). (q.0, v) ∷ qs) result
  where
    at : (u : Value) (b : Bool) → same_value u p.0 ≡ b → p.0 ≡ q.0 → apply ps p.0 ≡ apply qs p.0 → apply ps u ≡ apply qs u
    at u true s f k = ap (apply ps) (same_equal u p.0 s) ∙ k ∙ ap (apply qs) (sym (same_equal u p.0 s))
    at u false s f k =
        let w : same_value u q.0 ≡ false = ap (same_value u) (sym f) ∙ s in
        sym (ap (λ b. cond b (Some p.1) (apply ps u)) s) ∙ h u ∙ ap (λ b. cond b (Some q.1) (apply qs u)) w

pub same-functions : (ps qs : List Pair) → ((u : Value) → apply ps u ≡ apply qs u) → function_of ps ≡ function_of qs
same-functions ps qs h =
    let all : (u : Value) → apply (function_of ps) u ≡ apply (function_of qs) u = λ u. apply_function ps u ∙ h u ∙ sym (apply_function qs u) in
    same-pairs (function_of ps) (function_of qs)
    (same_members (arguments (function_of ps)) (arguments (function_of qs)) (subst Rises (sym (arguments-function ps)) (set_of_rising (arguments ps))) (subst Rises (sym (arguments-function qs)) (set_of_rising (arguments qs)))
    (members_of _ _ (λ v e. sym (apply_domain v (function_of qs)) ∙ ap is_some (sym (all v)) ∙ apply_domain v (function_of ps) ∙ e))
    (members_of _ _ (λ v e. sym (apply_domain v (function_of ps)) ∙ ap is_some (all v) ∙ apply_domain v (function_of qs) ∙ e)))
    (rising_function ps) all

pub one-function : (ps qs : List Pair) → value.Fun (function_of ps) ≡ value.Fun (function_of qs) → (u : Value) → apply ps u ≡ apply qs u
one-function ps qs e u = sym (apply_function ps u) ∙ ap (λ l. apply l u) (fun_one _ _ e) ∙ apply_function qs u

gives-some : (o : Option Value) (w : Value) → gives o w ≡ true → o ≡ Some w
gives-some None w e = absurd (cc)
gives-some (Some z) w e = ap (λ x. Some x) (sym (same_equal w z e))

-- what is kept of pairs is a pair
pairs-kept : (bs : List Bool) (es : List Pair) (v : Value) → member v (kept bs (map of_pair es)) ≡ true → IsPair v
pairs-kept [] es v e = absurd (cc)
pairs-kept (b ∷ bs) [] v e = absurd (cc)
pairs-kept (false ∷ bs) (x ∷ es) v e = pairs-kept bs es v e
pairs-kept (true ∷ bs) (x ∷ es) v e = go (same_value v (of_pair x)) refl e (pairs-kept bs es v)
  where
    go : (t : Bool) → same_value v (of_pair x) ≡ t → (t || member v (kept bs (map of_pair es))) ≡ true → (member v (kept bs (map of_pair es)) ≡ true → IsPair v) → IsPair v
    go true s h k = (x, same_equal v (of_pair x) s)
    go false s h k = k h

-- what one function gives wherever another does
within : (bs cs : List Bool) (es : List Pair) (vs : List Value) (ps qs : List Pair) → IsGraph bs (map of_pair es) ps → IsGraph cs vs qs → ((u : Value) → apply ps u ≡ apply qs u)
    → subset (kept bs (map of_pair es)) (kept cs vs) ≡ true
within bs cs es vs ps qs left right h = members_of (kept cs vs) (kept bs (map of_pair es)) (λ v e.
    let p = pairs-kept bs es v e in
    ap (λ t. member t (kept cs vs)) p.1 ∙ right p.0.0 p.0.1 ∙ ap (λ o. gives o p.0.1) (sym (h p.0.0)) ∙ sym (left p.0.0 p.0.1) ∙ ap (λ t. member t (kept bs (map of_pair es))) (sym p.1) ∙ e)

found-in : (v : Value) (xs ys : List Value) → subset xs ys ≡ true → member v xs ≡ true → member v ys ≡ true
found-in v [] ys s e = absurd (cc)
found-in v (x ∷ xs) ys s e = go (same_value v x) refl e (found-in v xs ys (rest_so _ _ s))
  where
    go : (t : Bool) → same_value v x ≡ t → (t || member v xs) ≡ true → (member v xs ≡ true → member v ys ≡ true) → member v ys ≡ true
    go true k h f = ap (λ u. member u ys) (same_equal v x k) ∙ first_so _ _ s
    go false k h f = f h

given-in : (bs cs : List Bool) (vs ws : List Value) (ps qs : List Pair) (u w : Value) → IsGraph bs vs ps → IsGraph cs ws qs → subset (kept bs vs) (kept cs ws) ≡ true → apply ps u ≡ Some w → apply qs u ≡ Some w
given-in bs cs vs ws ps qs u w left right s e =
    gives-some (apply qs u) w (sym (right u w) ∙ found-in (pair_value u w) (kept bs vs) (kept cs ws) s (left u w ∙ ap (λ o. gives o w) e ∙ same_itself w))

both-give : (u : Value) (o r : Option Value) → ((w : Value) → o ≡ Some w → r ≡ Some w) → ((w : Value) → r ≡ Some w → o ≡ Some w) → o ≡ r
both-give u (Some w) r h g = sym (h w refl)
both-give u None (Some w) h g = g w refl
both-give u None None h g = refl

pub same-graphs : (bs cs : List Bool) (es fs ps qs : List Pair) → IsGraph bs (map of_pair es) ps → IsGraph cs (map of_pair fs) qs
    → (subset (kept bs (map of_pair es)) (kept cs (map of_pair fs)) && subset (kept cs (map of_pair fs)) (kept bs (map of_pair es))) ≡ same_value (value.Fun (function_of ps)) (value.Fun (function_of qs))
same-graphs bs cs es fs ps qs left right = true_test _ _
    (λ e. subst (λ l. same_value (value.Fun (function_of ps)) (value.Fun l) ≡ true)
    (same-functions ps qs (λ u. both-give u (apply ps u) (apply qs u)
    (λ w. given-in bs cs (map of_pair es) (map of_pair fs) ps qs u w left right (first_so _ _ e))
    (λ w. given-in cs bs (map of_pair fs) (map of_pair es) qs ps u w right left (rest_so _ _ e))))
    (same_itself (value.Fun (function_of ps))))
    (λ e.
    let one = one-function ps qs (same_equal _ _ e) in
    ap (λ t. t && subset (kept cs (map of_pair fs)) (kept bs (map of_pair es))) (within bs cs es (map of_pair fs) ps qs left right one)
    ∙ within cs bs fs (map of_pair es) qs ps right left (λ u. sym (one u)))
