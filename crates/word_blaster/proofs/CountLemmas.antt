-- Counts: the low bits of words, zeros behind bits, and known numbers.
use Rattle.std.proofs.Common.{◌≡◌, ℕ, zero, suc, ◌+◌, ◌-◌, ◌*◌, ◌^◌, ◌/◌, ◌%◌, ◌<◌, ◌≤◌, Bool, true, false, not, List, [], ◌∷◌, ◌++◌, map, length, take, drop, get_or, refl, sym, ◌∙◌, ap, subst, arith, replicate, append_assoc}
use Rattle.std.specs.Prelude.{◌&&◌, ◌||◌, ◌==◌, ℤ, pos, negsuc, ◌-ℤ◌, nat_lt, if◌then◌else◌}
use Rattle.std.specs.List.{list_all}
use Rattle.std.proofs.lemmas.List.{take-append-drop, replicate-append-replicate, length-append, length-replicate, length-take-le, drop_all, drop-map, take-map}
use Rattle.std.proofs.lemmas.List.Folds.{list_all-append}
use Rattle.std.proofs.Math.Seq.{drop-cons}
use Rattle.std.proofs.lemmas.Int.{ints}
use Rattle.std.proofs.Math.Pow.{pow_mono}
use lib.Dec.{ltb}
use Rattle.std.proofs.lemmas.Bool.{cases_order, lt-ltb, le-ltb}
use borrow.Author.Tests.{eqb-true, eq-eqb, ne_eqb}
use Rattle.sat_formula.specs.Lit.{lit_value, differ}
use Rattle.sat_formula.specs.declared.lit.Lit.{Lit}
use Rattle.std.specs.Prelude.{◌⊎◌}
use Rattle.std.proofs.Common.{inl, inr}
use Rattle.sat_formula.proofs.GateClauses.{lit_value-negation}
use Rattle.sat_formula.specs.declared.cnf.Cnf.{Cnf}
use Rattle.sat_formula.specs.Formula.{Satisfies}
use Rattle.word_blaster.specs.inner.Padding.{IsPadded}
use Rattle.word_blaster.specs.Word.{AreWords, WordBelow, bit, number, sign, taken, signed, values, is_below}
use Rattle.word_blaster.proofs.Bits.{number-append, number-cons, number_lt, bit-le}
use Rattle.word_blaster.proofs.Signs.{signed-is, signed_parts, same_test}
use Rattle.word_blaster.proofs.Unsigned.{signed-zero}
use Rattle.word_blaster.proofs.Numerals.{halved}
use Rattle.word_blaster.proofs.Words.{WordBelow-append, WordBelow-replicate, number-values-nil, values-append, values-length, values-push}
use Rattle.word_blaster.proofs.Exact.{number-zeros}

-- ---- zeros behind bits

pub number-padded : (x : List Lit) (k : ℕ) (l : Lit) (a : List Bool) → lit_value l a ≡ false → number (values (x ++ replicate k l) a) ≡ number (values x a)
number-padded x k l a e =
    let n = number-zeros k l a e in
    let m : 2 ^ length (values x a) * number (values (replicate k l) a) ≡ 0 = ap (λ (j : ℕ). 2 ^ length (values x a) * j) n ∙ omega arith in
    ap number (values-append x (replicate k l) a) ∙ number-append (values x a) (values (replicate k l) a) ∙ omega (arith, m)

pub signed-padded : (x : List Lit) (k : ℕ) (l : Lit) (a : List Bool) → 0 < k → lit_value l a ≡ false → signed (values (x ++ replicate k l) a) ≡ pos (number (values x a))
signed-padded x k l a some e =
    let m : k ≡ (k - 1) + 1 = omega arith in
    let w : x ++ replicate k l ≡ (x ++ replicate (k - 1) l) ++ l ∷ [] = ap (λ (j : ℕ). x ++ replicate j l) m ∙ ap (λ (z : List Lit). x ++ z) (sym (replicate-append-replicate (k - 1) 1 l)) ∙ sym (append_assoc x (replicate (k - 1) l) (l ∷ [])) in
    ap (λ (z : List Lit). signed (values z a)) w ∙ ap signed (values-push (x ++ replicate (k - 1) l) l a)
    ∙ signed-zero (values (x ++ replicate (k - 1) l) a) (lit_value l a) e ∙ ap pos (number-padded x (k - 1) l a e)

pub padded_is : (f : Cnf) (x r : List Lit) (n k : ℕ) (l : Lit) → l.var < f.vars → ((a : List Bool) → Satisfies a f → lit_value l a ≡ false) → k ≡ n - length x → r ≡ x ++ replicate k l → IsPadded f x n r
padded_is f x r n k l lt none e is = record {
  below = λ h. subst (λ (w : List Lit). WordBelow f.vars w) (sym is) (WordBelow-append f.vars x (replicate k l) h (WordBelow-replicate f.vars k l lt));
  len = ap length is ∙ omega (arith, length-append x (replicate k l), length-replicate k l, e);
  value = λ a s. ap (λ (w : List Lit). number (values w a)) is ∙ number-padded x k l a (none a s);
  plain = λ a long s. ap (λ (w : List Lit). signed (values w a)) is ∙ signed-padded x k l a (omega arith) (none a s);
}

-- two numbers at one length
pub padded_words : (f : Cnf) (x y p q p' q' : List Lit) → WordBelow f.vars x → WordBelow f.vars y → IsPadded f x (length y) p → IsPadded f y (length x) q → p' ≡ p → q' ≡ q → AreWords f.vars p' q'
padded_words f x y p q p' q' h g a b e d = record {
  left = subst (λ (w : List Lit). WordBelow f.vars w) (sym e) (a.below h);
  right = subst (λ (w : List Lit). WordBelow f.vars w) (sym d) (b.below g);
  same = ap length e ∙ a.len ∙ omega arith ∙ sym b.len ∙ sym (ap length d);
}

-- ---- low bits

-- where the number is not negative, its sign is zero
plain_sign : (low half n : ℕ) (s : Bool) → low < half → (pos (low + bit s * half) -ℤ pos (bit s * (2 * half))) ≡ pos n → (s ≡ false) × (low ≡ n)
plain_sign low half n true lt e = absurd (omega (arith, ints))
plain_sign low half n false lt e = (refl, omega (arith, ints))

-- the bits below the sign
pub low-last : (bs : List Bool) (n : ℕ) → 0 < length bs → signed bs ≡ pos n → (sign bs ≡ false) × (number (take (length bs - 1) bs) ≡ n)
low-last bs n some e =
    let p = signed_parts bs some in
    plain_sign (number (take (length bs - 1) bs)) (2 ^ length (take (length bs - 1) bs)) n (sign bs) p.low_lt
    (ap (λ (k : ℕ). pos k -ℤ pos (bit (sign bs) * (2 * 2 ^ length (take (length bs - 1) bs)))) (sym p.number_is) ∙ ap (λ (k : ℕ). pos (number bs) -ℤ pos k) (sym p.taken_is) ∙ sym (signed-is bs) ∙ e)

-- the parts of bits at a place
pub number-split : (bs : List Bool) (k : ℕ) → k ≤ length bs → number bs ≡ number (take k bs) + 2 ^ k * number (drop k bs)
number-split bs k le =
    ap number (sym (take-append-drop k bs)) ∙ number-append (take k bs) (drop k bs)
    ∙ ap (λ (n : ℕ). number (take k bs) + 2 ^ n * number (drop k bs)) (length-take-le k bs le)

pub number-take_lt : (bs : List Bool) (k : ℕ) → k ≤ length bs → number (take k bs) < 2 ^ k
number-take_lt bs k le = subst (λ (n : ℕ). number (take k bs) < 2 ^ n) (length-take-le k bs le) (number_lt (take k bs))

-- nothing stands above a small number
rest-zero : (low d h n : ℕ) → n ≡ low + h * d → n < h → low ≡ n
rest-zero low zero h n e lt = omega arith
rest-zero low (suc d) h n e lt = absurd (omega arith)

-- the low bits of a number that has no more, or of one that is not negative
pub low-is : (bs : List Bool) (k n : ℕ) → k ≤ length bs - 1 → 0 < length bs → signed bs ≡ pos n → (k ≡ length bs - 1) ⊎ (n < 2 ^ k) → number (take k bs) ≡ n
low-is bs k n le some e (inl same) = ap (λ (j : ℕ). number (take j bs)) same ∙ (low-last bs n some e).1
low-is bs k n le some e (inr lt) =
    let whole : number bs ≡ n = whole_is (low-last bs n some e) in
    rest-zero (number (take k bs)) (number (drop k bs)) (2 ^ k) n (sym whole ∙ number-split bs k (omega arith)) lt
  where
    whole_is : (sign bs ≡ false) × (number (take (length bs - 1) bs) ≡ n) → number bs ≡ n
    whole_is p = (signed_parts bs some).number_is ∙ ap (λ (b : Bool). number (take (length bs - 1) bs) + bit b * 2 ^ length (take (length bs - 1) bs)) p.0 ∙ omega (arith, p.1)

-- ---- no bit is set

cons-zero : (b : Bool) (m : ℕ) → ((bit b + 2 * m) == 0) ≡ (not b && (m == 0))
cons-zero true m = ne_eqb (1 + 2 * m) 0 (λ e. omega (arith, e))
cons-zero false m = same_test (0 + 2 * m == 0) (m == 0) (λ e. eq-eqb m 0 (let z = eqb-true (0 + 2 * m) 0 e in omega arith)) (λ e. eq-eqb (0 + 2 * m) 0 (let z = eqb-true m 0 e in omega arith))

pub none-set : (w : List Lit) (a : List Bool) → list_all (λ l. lit_value l a) (map (λ (l : Lit). record { var = l.var; neg = not l.neg }) w) ≡ (number (values w a) == 0)
unfolding number
none-set [] a = refl
none-set (l ∷ w) a = rw (lit_value-negation l a, none-set w a) (sym (cons-zero (lit_value l a) (number (values w a))))

below-by : (k low half t d : ℕ) (s : Bool) → low < half → 2 ^ k ≤ half → t < 2 ^ k → low + bit s * half ≡ t + 2 ^ k * d →
    is_below k (pos (low + bit s * half) -ℤ pos (bit s * (2 * half))) ≡ (d == 0)
below-by k low half t zero true lt le small e = absurd (omega arith)
below-by k low half t (suc d) true lt le small e =
    let z : pos (low + 1 * half) -ℤ pos (1 * (2 * half)) ≡ negsuc (half - low - 1) = omega (arith, ints) in
    ap (is_below k) z ∙ sym (ne_eqb (suc d) 0 (λ h. omega (arith, h)))
below-by k low half t zero false lt le small e =
    let z : pos (low + 0 * half) -ℤ pos (0 * (2 * half)) ≡ pos low = omega (arith, ints) in
    ap (is_below k) z ∙ lt-ltb low (2 ^ k) (omega arith)
below-by k low half t (suc d) false lt le small e =
    let z : pos (low + 0 * half) -ℤ pos (0 * (2 * half)) ≡ pos low = omega (arith, ints) in
    ap (is_below k) z ∙ le-ltb low (2 ^ k) (omega arith) ∙ sym (ne_eqb (suc d) 0 (λ h. omega (arith, h)))

pub below-is : (bs : List Bool) (k : ℕ) → k < length bs → is_below k (signed bs) ≡ (number (drop k bs) == 0)
below-is bs k lt =
    let p = signed_parts bs (omega arith) in
    let half = 2 ^ length (take (length bs - 1) bs) in
    let le : 2 ^ k ≤ half = pow_mono {i = k} {j = length (take (length bs - 1) bs)} (omega (arith, length-take-le (length bs - 1) bs (omega arith))) in
    ap (λ (z : ℤ). is_below k z) (signed-is bs ∙ ap (λ (n : ℕ). pos n -ℤ pos (taken bs)) p.number_is ∙ ap (λ (n : ℕ). pos (number (take (length bs - 1) bs) + bit (sign bs) * half) -ℤ pos n) p.taken_is)
    ∙ below-by k (number (take (length bs - 1) bs)) half (number (take k bs)) (number (drop k bs)) (sign bs) p.low_lt le (number-take_lt bs k (omega arith)) (sym p.number_is ∙ number-split bs k (omega arith))

-- ---- known numbers, from the lowest bit

pub cons-equal : (b c : Bool) (k m q : ℕ) → m ≡ 2 * q + bit c → ((bit b + 2 * k) == m) ≡ ((if c then b else not b) && (k == q))
cons-equal true true k m q e = same_test _ _ (λ h. eq-eqb k q (let z = eqb-true (1 + 2 * k) m h in omega arith)) (λ h. eq-eqb (1 + 2 * k) m (let z = eqb-true k q h in omega arith))
cons-equal false false k m q e = same_test _ _ (λ h. eq-eqb k q (let z = eqb-true (0 + 2 * k) m h in omega arith)) (λ h. eq-eqb (0 + 2 * k) m (let z = eqb-true k q h in omega arith))
cons-equal true false k m q e = ne_eqb (1 + 2 * k) m (λ h. omega (arith, h))
cons-equal false true k m q e = ne_eqb (0 + 2 * k) m (λ h. omega (arith, h))

-- both answers of a comparison
tests : (x y : ℕ) (l p q : Bool) → nat_lt x y ≡ p → (x == y) ≡ q → (nat_lt x y || ((x == y) && l)) ≡ (p || (q && l))
tests x y l p q e f = ap (λ (t : Bool). t || ((x == y) && l)) e ∙ ap (λ (t : Bool). p || (t && l)) f

above-same : (b c l : Bool) (k m : ℕ) → m ≡ 2 * k + bit c → (nat_lt m (bit b + 2 * k) || ((m == (bit b + 2 * k)) && l)) ≡ (if c then b && l else b || l)
above-same true true l k m e = tests m (1 + 2 * k) l false true (le-ltb m (1 + 2 * k) (omega arith)) (eq-eqb m (1 + 2 * k) (omega arith))
above-same true false l k m e = tests m (1 + 2 * k) l true false (lt-ltb m (1 + 2 * k) (omega arith)) (ne_eqb m (1 + 2 * k) (λ h. omega (arith, h)))
above-same false true l k m e = tests m (0 + 2 * k) l false false (le-ltb m (0 + 2 * k) (omega arith)) (ne_eqb m (0 + 2 * k) (λ h. omega (arith, h)))
above-same false false l k m e = tests m (0 + 2 * k) l false true (le-ltb m (0 + 2 * k) (omega arith)) (eq-eqb m (0 + 2 * k) (omega arith))

pub cons-above : (b c l : Bool) (k m q : ℕ) → m ≡ 2 * q + bit c →
    (nat_lt m (bit b + 2 * k) || ((m == (bit b + 2 * k)) && l)) ≡ (nat_lt q k || ((q == k) && (if c then b && l else b || l)))
cons-above b c l k m q e = by (cases_order q k)
  where
    r : Bool
    r = if c then b && l else b || l

    le : bit b ≤ 1
    le = bit-le b

    by : (q ≡ k) ⊎ ((q < k) ⊎ (k < q)) → (nat_lt m (bit b + 2 * k) || ((m == (bit b + 2 * k)) && l)) ≡ (nat_lt q k || ((q == k) && r))
    by (inl same) = above-same b c l k m (e ∙ omega (arith, same)) ∙ sym (tests q k r false true (le-ltb q k (omega arith)) (eq-eqb q k same))
    by (inr (inl lt)) = tests m (bit b + 2 * k) l true false (lt-ltb m (bit b + 2 * k) (omega (arith, e, bit-le c))) (ne_eqb m (bit b + 2 * k) (λ h. omega (arith, h, e, bit-le c)))
        ∙ sym (tests q k r true false (lt-ltb q k lt) (ne_eqb q k (λ h. omega (arith, h))))
    by (inr (inr gt)) = tests m (bit b + 2 * k) l false false (le-ltb m (bit b + 2 * k) (omega (arith, e, bit-le b))) (ne_eqb m (bit b + 2 * k) (λ h. omega (arith, h, e, bit-le b)))
        ∙ sym (tests q k r false false (le-ltb q k (omega arith)) (ne_eqb q k (λ h. omega (arith, h))))

-- ---- words

pub low-word : (w : List Lit) (a : List Bool) (k n : ℕ) → k ≤ length w - 1 → 0 < length w → signed (values w a) ≡ pos n → (k ≡ length w - 1) ⊎ (n < 2 ^ k) → number (values (take k w) a) ≡ n
low-word w a k n le some e h =
    let m = values-length w a in
    ap number (sym (take-map (λ (l : Lit). lit_value l a) k w))
    ∙ low-is (values w a) k n (omega (arith, m)) (omega (arith, m)) e (subst (λ (j : ℕ). (k ≡ j - 1) ⊎ (n < 2 ^ k)) (sym m) h)

pub beyond-word : (w : List Lit) (a : List Bool) (k : ℕ) → k < length w →
    list_all (λ l. lit_value l a) (map (λ (l : Lit). record { var = l.var; neg = not l.neg }) (drop k w)) ≡ is_below k (signed (values w a))
beyond-word w a k lt =
    none-set (drop k w) a ∙ ap (λ (bs : List Bool). number bs == 0) (sym (drop-map (λ (l : Lit). lit_value l a) k w))
    ∙ sym (below-is (values w a) k (omega (arith, values-length w a)))

pub number-values-drop : (w : List Lit) (d : Lit) (a : List Bool) (i : ℕ) → i < length w → number (values (drop i w) a) ≡ bit (lit_value (get_or w i d) a) + 2 * number (values (drop (i + 1) w) a)
number-values-drop w d a i lt =
    let m : suc i ≡ i + 1 = omega arith in
    ap (λ (v : List Lit). number (values v a)) (drop-cons w i d lt) ∙ number-cons (lit_value (get_or w i d) a) (values (drop (suc i) w) a)
    ∙ ap (λ (j : ℕ). bit (lit_value (get_or w i d) a) + 2 * number (values (drop j w) a)) m

pub number-values-end : (w : List Lit) (a : List Bool) (i : ℕ) → length w ≤ i → number (values (drop i w) a) ≡ 0
number-values-end w a i le = number-values-nil (drop i w) a (drop_all i w le)

-- ---- the loops

and_one : (l t k : Bool) → ((l && (t && true)) && k) ≡ (l && (t && k))
and_one true true k = refl
and_one true false k = refl
and_one false t k = refl

pub equal_more : (w v : List Lit) (d t : Lit) (a : List Bool) (i r n : ℕ) → i < length w → lit_value t a ≡ (if r % 2 == 1 then lit_value (get_or w i d) a else not (lit_value (get_or w i d) a)) →
    (list_all (λ x. lit_value x a) v && (number (values (drop i w) a) == r)) ≡ (number (values w a) == n) →
    (list_all (λ x. lit_value x a) (v ++ t ∷ []) && (number (values (drop (i + 1) w) a) == r / 2)) ≡ (number (values w a) == n)
equal_more w v d t a i r n lt e old =
    let all = list_all (λ (x : Lit). lit_value x a) v in
    let rest = number (values (drop (i + 1) w) a) in
    ap (λ (b : Bool). b && (rest == r / 2)) (list_all-append (λ (x : Lit). lit_value x a) v (t ∷ []))
    ∙ and_one all (lit_value t a) (rest == r / 2)
    ∙ ap (λ (b : Bool). all && b) (ap (λ (b : Bool). b && (rest == r / 2)) e ∙ sym (cons-equal (lit_value (get_or w i d) a) (r % 2 == 1) rest r (r / 2) (halved r)) ∙ ap (λ (m : ℕ). m == r) (sym (number-values-drop w d a i lt)))
    ∙ old

pub equal_end : (w v : List Lit) (a : List Bool) (i r n : ℕ) → length w ≤ i →
    (list_all (λ x. lit_value x a) v && (number (values (drop i w) a) == r)) ≡ (number (values w a) == n) → (list_all (λ x. lit_value x a) v && (0 == r)) ≡ (number (values w a) == n)
equal_end w v a i r n le old = ap (λ (m : ℕ). list_all (λ (x : Lit). lit_value x a) v && (m == r)) (sym (number-values-end w a i le)) ∙ old

pub above_more : (w : List Lit) (d : Lit) (a : List Bool) (i r : ℕ) (l m g : Bool) → i < length w → m ≡ (if r % 2 == 1 then lit_value (get_or w i d) a && l else lit_value (get_or w i d) a || l) →
    (nat_lt r (number (values (drop i w) a)) || ((r == number (values (drop i w) a)) && l)) ≡ g →
    (nat_lt (r / 2) (number (values (drop (i + 1) w) a)) || ((r / 2 == number (values (drop (i + 1) w) a)) && m)) ≡ g
above_more w d a i r l m g lt e old =
    let rest = number (values (drop (i + 1) w) a) in
    ap (λ (b : Bool). nat_lt (r / 2) rest || ((r / 2 == rest) && b)) e
    ∙ sym (cons-above (lit_value (get_or w i d) a) (r % 2 == 1) l rest r (r / 2) (halved r))
    ∙ ap (λ (k : ℕ). nat_lt r k || ((r == k) && l)) (sym (number-values-drop w d a i lt))
    ∙ old

pub above_end : (w : List Lit) (a : List Bool) (i r : ℕ) (l z g : Bool) → length w ≤ i → (r == 0) ≡ z →
    (nat_lt r (number (values (drop i w) a)) || ((r == number (values (drop i w) a)) && l)) ≡ g → (z && l) ≡ g
above_end w a i r l z g le e old =
    sym (tests r 0 l false z (le-ltb r 0 (omega arith)) e) ∙ ap (λ (k : ℕ). nat_lt r k || ((r == k) && l)) (sym (number-values-end w a i le)) ∙ old

pub and-false : (b : Bool) → (b && false) ≡ false
and-false true = refl
and-false false = refl

pub and-true : (b : Bool) → (b && true) ≡ b
and-true true = refl
and-true false = refl

-- ---- differences

half_borrow : (x c : Bool) → bit x + 2 * bit (not x && c) ≡ bit (differ x c) + bit c
half_borrow true true = refl
half_borrow true false = refl
half_borrow false true = refl
half_borrow false false = refl

pub borrow_place : (n m h h' u : ℕ) (x c : Bool) → n + u ≡ m + bit c * h → h' ≡ 2 * h → (n + bit (differ x c) * h) + u ≡ (m + bit x * h) + bit (not x && c) * h'
borrow_place n m h h' u x c e d =
    let t : (bit x + 2 * bit (not x && c)) * h ≡ (bit (differ x c) + bit c) * h = ap (λ (t : ℕ). t * h) (half_borrow x c) in
    let v : bit (not x && c) * h' ≡ bit (not x && c) * (2 * h) = ap (λ (t : ℕ). bit (not x && c) * t) d in
    omega (arith, e, t, v)

pub no_borrow : (b : Bool) (r m u h : ℕ) → r + u ≡ m + bit b * h → r < h → u ≤ m → r + u ≡ m
no_borrow true r m u h e lt le = absurd (omega arith)
no_borrow false r m u h e lt le = omega arith

pub difference_is : (c : Bool) (s x y t h : ℕ) → s + bit c * h ≡ x + t + 1 → t + y + 1 ≡ h → s < h → y ≤ x → s + y ≡ x
difference_is true s x y t h e d lt le = omega arith
difference_is false s x y t h e d lt le = absurd (omega arith)
