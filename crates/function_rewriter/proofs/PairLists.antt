-- Functions of lists of pairs, by what they give.
use Rattle.std.proofs.Common.{◌≡◌, Bool, true, false, not, ◌&&◌, ◌||◌, List, [], ◌∷◌, ◌++◌, map, Option, Some, None, is_some, refl, ap, ◌∙◌, sym, subst, if◌then◌else◌}
use Rattle.std.specs.declared.cmp.Ordering.{Ordering}
use Rattle.std.specs.declared.cmp.Ordering.TheVariants.{Less, Equal, Greater}
use Rattle.tla_values.specs.Order.{value_cmp, same_value}
use Rattle.tla_values.specs.Sets.{apply, arguments, distinct, function_of, insert, member, set_of}
use Rattle.tla_values.specs.declared.value.Value.{Value}
use Rattle.tla_values.proofs.TotalLemmas.{value_equal}
use Rattle.tla_values.proofs.Extensional.{same_equal, member-set_of}
use Rattle.tla_values.proofs.SetLaws.{Rising, Above, higher, less_back, rising_set_of}
use Rattle.tla_values.proofs.FunLaws.{apply_domain, rising_function, arguments_insert}
use Rattle.cell_merge.proofs.FunctionValues.{apply_function, hit}

abbrev Pair : Type 0
Pair = Value × Value

not_above : (x : Value) (xs : List Value) → Above x xs → member x xs ≡ false
not_above x [] h = refl
not_above x (y ∷ ys) h = rw h.0 (not_above x ys h.1)

no_value : (o : Option Value) → is_some o ≡ false → o ≡ None
no_value None e = refl
no_value (Some x) e = absurd (cc)

-- what is below all arguments is none
apply_below : (a : Value) (ps : List Pair) → Above a (arguments ps) → apply ps a ≡ None
apply_below a ps h = no_value (apply ps a) (apply_domain a ps ∙ not_above a (arguments ps) h)

-- ---- functions that give the same are the same

some_is : (x y : Value) → Some x ≡ Some y → x ≡ y
some_is x y e = cc

rest_same : (p q : Pair) (ps qs : List Pair) → p.0 ≡ q.0 → Above p.0 (arguments ps) → Above q.0 (arguments qs)
    → ((a : Value) → apply (p ∷ ps) a ≡ apply (q ∷ qs) a) → (a : Value) → apply ps a ≡ apply qs a
rest_same p q ps qs k r s h a = go (same_value a p.0) refl
  where
    go : (b : Bool) → same_value a p.0 ≡ b → apply ps a ≡ apply qs a
    go true e =
        let x : a ≡ p.0 = same_equal a p.0 e in
        ap (apply ps) x ∙ apply_below p.0 ps r ∙ sym (apply_below q.0 qs s) ∙ ap (apply qs) (sym (x ∙ k))
    go false e =
        let f : same_value a q.0 ≡ false = ap (λ y. same_value a y) (sym k) ∙ e in
        sym (ap (λ b. if b then Some p.1 else apply ps a) e) ∙ h a ∙ ap (λ b. if b then Some q.1 else apply qs a) f

same_functions : (ps qs : List Pair) → Rising (arguments ps) → Rising (arguments qs) → ((a : Value) → apply ps a ≡ apply qs a) → ps ≡ qs
same_functions [] [] r s h = refl
same_functions [] (q ∷ qs) r s h = let k : None ≡ Some q.1 = h q.0 ∙ hit q qs in absurd (cc)
same_functions (p ∷ ps) [] r s h = let k : None ≡ Some p.1 = sym (h p.0) ∙ hit p ps in absurd (cc)
same_functions (p ∷ ps) (q ∷ qs) r s h =
    at (value_cmp p.0 q.0) refl (λ k. same_functions ps qs r.1 s.1 (rest_same p q ps qs k r.0 s.0 h))
  where
    at : (o : Ordering) → value_cmp p.0 q.0 ≡ o → (p.0 ≡ q.0 → ps ≡ qs) → (p ∷ ps) ≡ (q ∷ qs)
    at Less e go =
        let k : None ≡ Some p.1 = sym (apply_below p.0 (q ∷ qs) (e, higher p.0 q.0 (arguments qs) e s.0)) ∙ sym (h p.0) ∙ hit p ps in absurd (cc)
    at Greater e go =
        let b = less_back p.0 q.0 e in
        let k : None ≡ Some q.1 = sym (apply_below q.0 (p ∷ ps) (b, higher q.0 p.0 (arguments ps) b r.0)) ∙ h q.0 ∙ hit q qs in absurd (cc)
    at Equal e go =
        let k : p.0 ≡ q.0 = value_equal p.0 q.0 e in
        let v : p.1 ≡ q.1 = some_is p.1 q.1 (sym (hit p ps) ∙ h p.0 ∙ ap (apply (q ∷ qs)) k ∙ hit q qs) in
        let pq : p ≡ q = λ i. (k i, v i) in
        ap (λ x. x ∷ ps) pq ∙ ap (λ l. q ∷ l) (go k)

-- functions of pairs that give the same
pub function_same : (ps qs : List Pair) → ((v : Value) → apply ps v ≡ apply qs v) → function_of ps ≡ function_of qs
function_same ps qs h = same_functions (function_of ps) (function_of qs) (rising_function ps) (rising_function qs) (λ v. apply_function ps v ∙ h v ∙ sym (apply_function qs v))

-- ---- pairs behind pairs

-- what there is, and else the other
abbrev pub or_else : Option Value → Option Value → Option Value
or_else None o = o
or_else (Some v) o = Some v

pub apply_append : (ps qs : List Pair) (v : Value) → apply (ps ++ qs) v ≡ or_else (apply ps v) (apply qs v)
apply_append [] qs v = refl
apply_append (p ∷ ps) qs v = split (same_value v p.0) (apply_append ps qs v)
  where
    split : (b : Bool) → apply (ps ++ qs) v ≡ or_else (apply ps v) (apply qs v) → (if b then Some p.1 else apply (ps ++ qs) v) ≡ or_else (if b then Some p.1 else apply ps v) (apply qs v)
    split true h = refl
    split false h = h

-- the pairs of two functions, of which the first wins
pub join_function : (ps qs : List Pair) → function_of (function_of ps ++ function_of qs) ≡ function_of (ps ++ qs)
join_function ps qs = function_same _ _ (λ v.
    apply_append (function_of ps) (function_of qs) v ∙ ap (λ o. or_else o (apply (function_of qs) v)) (apply_function ps v) ∙ ap (or_else (apply ps v)) (apply_function qs v)
    ∙ sym (apply_append ps qs v))

stays : (o p : Option Value) → is_some o ≡ true → or_else o p ≡ o
stays None p h = absurd (cc)
stays (Some v) p h = refl

or_none : (o : Option Value) → or_else o None ≡ o
or_none None = refl
or_none (Some v) = refl

-- a pair whose argument is there already adds nothing
pub hidden_last : (ps : List Pair) (q : Pair) → member q.0 (arguments ps) ≡ true → (v : Value) → apply (ps ++ q ∷ []) v ≡ apply ps v
hidden_last ps q h v = apply_append ps (q ∷ []) v ∙ split (same_value v q.0) refl
  where
    split : (b : Bool) → same_value v q.0 ≡ b → or_else (apply ps v) (if b then Some q.1 else None) ≡ apply ps v
    split true e = stays (apply ps v) (Some q.1) (apply_domain v ps ∙ ap (λ x. member x (arguments ps)) (same_equal v q.0 e) ∙ h)
    split false e = or_none (apply ps v)

pub arguments_function : (ps : List Pair) → arguments (function_of ps) ≡ set_of (arguments ps)
arguments_function [] = refl
arguments_function (p ∷ ps) = arguments_insert p (function_of ps) ∙ ap (insert p.0) (arguments_function ps)

-- ---- functions given by a rule

abbrev pub graph : List Value → (Value → Value) → List Pair
graph xs g = map (λ x. (x, g x)) xs

pub arguments_graph : (xs : List Value) (g : Value → Value) → arguments (graph xs g) ≡ xs
arguments_graph [] g = refl
arguments_graph (x ∷ xs) g = ap (λ l. x ∷ l) (arguments_graph xs g)

pub apply_graph : (xs : List Value) (g : Value → Value) (v : Value) → apply (graph xs g) v ≡ (if member v xs then Some (g v) else None)
apply_graph [] g v = refl
apply_graph (x ∷ xs) g v = split (same_value v x) refl (apply_graph xs g v)
  where
    split : (b : Bool) → same_value v x ≡ b → apply (graph xs g) v ≡ (if member v xs then Some (g v) else None)
        → (if b then Some (g x) else apply (graph xs g) v) ≡ (if same_value v x || member v xs then Some (g v) else None)
    split true e h = ap (λ y. Some (g y)) (sym (same_equal v x e)) ∙ ap (λ (t : Bool). if t || member v xs then Some (g v) else None) (sym e)
    split false e h = h ∙ ap (λ (t : Bool). if t || member v xs then Some (g v) else None) (sym e)

-- the function of pairs that give at each of their arguments what the rule gives
pub graph_function : (ps : List Pair) (g : Value → Value) → ((v : Value) → member v (arguments ps) ≡ true → apply ps v ≡ Some (g v)) → function_of ps ≡ graph (set_of (arguments ps)) g
graph_function ps g h =
    let xs : List Value = set_of (arguments ps) in
    same_functions (function_of ps) (graph xs g) (rising_function ps) (subst Rising (sym (arguments_graph xs g)) (rising_set_of (arguments ps)))
    (λ v. apply_function ps v ∙ given v (member v (arguments ps)) refl ∙ ap (λ (t : Bool). if t then Some (g v) else None) (sym (member-set_of v (arguments ps))) ∙ sym (apply_graph xs g v))
  where
    given : (v : Value) (t : Bool) → member v (arguments ps) ≡ t → apply ps v ≡ (if member v (arguments ps) then Some (g v) else None)
    given v true e = h v e ∙ ap (λ (t : Bool). if t then Some (g v) else None) (sym e)
    given v false e = no_value (apply ps v) (apply_domain v ps ∙ e) ∙ ap (λ (t : Bool). if t then Some (g v) else None) (sym e)

pub function_graph : (xs : List Value) (g : Value → Value) → function_of (graph xs g) ≡ graph (set_of xs) g
function_graph xs g =
    graph_function (graph xs g) g (λ v e. apply_graph xs g v ∙ ap (λ (t : Bool). if t then Some (g v) else None) (ap (member v) (sym (arguments_graph xs g)) ∙ e))
    ∙ ap (λ ys. graph (set_of ys) g) (arguments_graph xs g)

-- the members of a set are different
pub set-distinct : (xs : List Value) → distinct (set_of xs) ≡ true
set-distinct xs = go (set_of xs) (rising_set_of xs)
  where
    go : (ys : List Value) → Rising ys → distinct ys ≡ true
    go [] r = refl
    go (y ∷ ys) r = ap (λ b. not b && distinct ys) (not_above y ys r.0) ∙ go ys r.1
