-- Functions with another result at an argument.
use Rattle.std.proofs.Common.{◌≡◌, ◌≢◌, ℕ, ◌+◌, ◌<◌, Bool, true, false, List, [], ◌∷◌, length, get_or, set, zero, suc, refl, ap, ◌∙◌, sym, arith, Some, cond, ℤ, pos, if◌then◌else◌, add-zero}
use Rattle.std.specs.List.{zip}
use Rattle.std.specs.declared.cmp.Ordering.{Ordering}
use Rattle.std.specs.declared.cmp.Ordering.TheVariants.{Less, Equal, Greater}
use Rattle.tla_values.specs.Order.{Layer, value_cmp, same_value}
use Rattle.tla_values.specs.Sequences.{numbered}
use Rattle.tla_values.specs.Sets.{apply, by_order, distinct, function_of, insert_pair, member, override_at}
use Rattle.tla_values.specs.declared.value.Value.{Value, out-Value}
use Rattle.tla_values.specs.declared.value.Value.TheVariants as value
use Rattle.tla_values.specs.declared.value.Value.TheVariants.{outs-Int}
use Rattle.tla_values.specs.declared.value.Value.TheOpen as layer
use Rattle.tla_values.proofs.Extensional.{same_equal, same_itself}
use Rattle.cell_merge.proofs.FunctionValues.{head_so, last_so, rest_so, not_member, differ_at, hit}

abbrev Pair : Type 0
Pair = Value × Value

-- ---- a function with another result

if_argument : (b : Bool) (p : Pair) (v : Value) → (if b then (p.0, v) else p).0 ≡ p.0
if_argument true p v = refl
if_argument false p v = refl

pub override_insert : (q : Pair) (ps : List Pair) (a v : Value) → override_at (insert_pair q ps) a v ≡ insert_pair (if same_value a q.0 then (q.0, v) else q) (override_at ps a v)
override_insert q [] a v = refl
override_insert q (p ∷ ps) a v =
    let r : Pair = if same_value a q.0 then (q.0, v) else q in
    let s : Pair = if same_value a p.0 then (p.0, v) else p in
    let e : value_cmp r.0 s.0 ≡ value_cmp q.0 p.0 = ap (λ x. value_cmp x s.0) (if_argument (same_value a q.0) q v) ∙ ap (value_cmp q.0) (if_argument (same_value a p.0) p v) in
    go (value_cmp q.0 p.0) (override_insert q ps a v) ∙ sym (ap (λ o. by_order o (r ∷ s ∷ override_at ps a v) (r ∷ override_at ps a v) (s ∷ insert_pair r (override_at ps a v))) e)
  where
    go : (o : Ordering) → override_at (insert_pair q ps) a v ≡ insert_pair (if same_value a q.0 then (q.0, v) else q) (override_at ps a v)
        → override_at (by_order o (q ∷ p ∷ ps) (q ∷ ps) (p ∷ insert_pair q ps)) a v
        ≡ by_order o ((if same_value a q.0 then (q.0, v) else q) ∷ (if same_value a p.0 then (p.0, v) else p) ∷ override_at ps a v) ((if same_value a q.0 then (q.0, v) else q) ∷ override_at ps a v)
        ((if same_value a p.0 then (p.0, v) else p) ∷ insert_pair (if same_value a q.0 then (q.0, v) else q) (override_at ps a v))
    go Less h = refl
    go Equal h = refl
    go Greater h = ap (λ l. (if same_value a p.0 then (p.0, v) else p) ∷ l) h

pub override_function : (ps : List Pair) (a v : Value) → override_at (function_of ps) a v ≡ function_of (override_at ps a v)
override_function [] a v = refl
override_function (p ∷ ps) a v =
    override_insert p (function_of ps) a v ∙ ap (insert_pair (if same_value a p.0 then (p.0, v) else p)) (override_function ps a v)

override_none : (xs vs : List Value) (a w : Value) → member a xs ≡ false → override_at (zip xs vs) a w ≡ zip xs vs
override_none [] vs a w h = refl
override_none (x ∷ xs) [] a w h = refl
override_none (x ∷ xs) (v ∷ vs) a w h =
    ap (λ (b : Bool). (if b then (x, w) else (x, v)) ∷ override_at (zip xs vs) a w) (head_so _ _ h) ∙ ap (λ l. (x, v) ∷ l) (override_none xs vs a w (last_so _ _ h))

-- the result at a place is replaced where the argument of that place is given
pub override_zip : (xs vs : List Value) (i : ℕ) (d w : Value) → distinct xs ≡ true → length vs ≡ length xs → i < length xs → override_at (zip xs vs) (get_or xs i d) w ≡ zip xs (set vs i w)
override_zip [] vs i d w h n lt = absurd (omega arith)
override_zip (x ∷ xs) [] i d w h n lt = absurd (omega arith)
override_zip (x ∷ xs) (v ∷ vs) zero d w h n lt =
    ap (λ (b : Bool). (if b then (x, w) else (x, v)) ∷ override_at (zip xs vs) x w) (same_itself x) ∙ ap (λ l. (x, w) ∷ l) (override_none xs vs x w (not_member x xs h))
override_zip (x ∷ xs) (v ∷ vs) (suc i) d w h n lt =
    ap (λ (b : Bool). (if b then (x, w) else (x, v)) ∷ override_at (zip xs vs) (get_or xs i d) w) (differ_at x xs i d (not_member x xs h) (omega arith))
    ∙ ap (λ l. (x, v) ∷ l) (override_zip xs vs i d w (rest_so _ _ h) (omega arith) (omega arith))

-- ---- the items of a sequence

int_here : Layer Value → ℤ
int_here (layer.Bool b) = pos 0
int_here (layer.Int n) = n
int_here (layer.Text t) = pos 0
int_here (layer.Set xs) = pos 0
int_here (layer.Fun ps) = pos 0

int_one : (m n : ℤ) → value.Int m ≡ value.Int n → m ≡ n
unfolding int_here
int_one m n e = sym (ap int_here (outs-Int m)) ∙ ap (λ v. int_here (out-Value v)) e ∙ ap int_here (outs-Int n)

number_apart : (i n : ℕ) → i ≢ n → same_value (value.Int (pos i)) (value.Int (pos n)) ≡ false
number_apart i n h = go (same_value (value.Int (pos i)) (value.Int (pos n))) refl
  where
    pos_one : (i n : ℕ) → pos i ≡ pos n → i ≡ n
    pos_one i n e = cc

    go : (b : Bool) → same_value (value.Int (pos i)) (value.Int (pos n)) ≡ b → b ≡ false
    go false e = refl
    go true e = absurd (h (pos_one i n (int_one (pos i) (pos n) (same_equal _ _ e))))

pub apply_numbered : (vs : List Value) (n i : ℕ) (d : Value) → i < length vs → apply (numbered n vs) (value.Int (pos (n + i))) ≡ Some (get_or vs i d)
apply_numbered [] n i d lt = absurd (omega arith)
apply_numbered (v ∷ vs) n zero d lt = rw add-zero (hit (value.Int (pos n), v) (numbered (n + 1) vs))
apply_numbered (v ∷ vs) n (suc i) d lt =
    ap (λ b. cond b (Some v) (apply (numbered (n + 1) vs) (value.Int (pos (n + suc i))))) (number_apart (n + suc i) n (omega arith))
    ∙ ap (λ (k : ℕ). apply (numbered (n + 1) vs) (value.Int (pos k))) (omega arith) ∙ apply_numbered vs (n + 1) i d (omega arith)

zero_added : (n : ℕ) → n + 0 ≡ n
zero_added n = omega arith

override_above : (vs : List Value) (n i : ℕ) (w : Value) → i < n → override_at (numbered n vs) (value.Int (pos i)) w ≡ numbered n vs
override_above [] n i w lt = refl
override_above (v ∷ vs) n i w lt =
    ap (λ (b : Bool). (if b then (value.Int (pos n), w) else (value.Int (pos n), v)) ∷ override_at (numbered (n + 1) vs) (value.Int (pos i)) w) (number_apart i n (omega arith))
    ∙ ap (λ l. (value.Int (pos n), v) ∷ l) (override_above vs (n + 1) i w (omega arith))

pub override_numbered : (vs : List Value) (n i : ℕ) (w : Value) → i < length vs → override_at (numbered n vs) (value.Int (pos (n + i))) w ≡ numbered n (set vs i w)
override_numbered [] n i w lt = absurd (omega arith)
override_numbered (v ∷ vs) n zero w lt =
    ap (λ (k : ℕ). override_at (numbered n (v ∷ vs)) (value.Int (pos k)) w) (zero_added n)
    ∙ ap (λ (b : Bool). (if b then (value.Int (pos n), w) else (value.Int (pos n), v)) ∷ override_at (numbered (n + 1) vs) (value.Int (pos n)) w) (same_itself (value.Int (pos n)))
    ∙ ap (λ l. (value.Int (pos n), w) ∷ l) (override_above vs (n + 1) n w (omega arith))
override_numbered (v ∷ vs) n (suc i) w lt =
    ap (λ (b : Bool). (if b then (value.Int (pos n), w) else (value.Int (pos n), v)) ∷ override_at (numbered (n + 1) vs) (value.Int (pos (n + suc i))) w) (number_apart (n + suc i) n (omega arith))
    ∙ ap (λ l. (value.Int (pos n), v) ∷ l) (ap (λ (k : ℕ). override_at (numbered (n + 1) vs) (value.Int (pos k)) w) (omega arith) ∙ override_numbered vs (n + 1) i w (omega arith))
