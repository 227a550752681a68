-- Lists of literals.
use Rattle.std.proofs.Common.{◌≡◌, ℕ, ◌+◌, ◌-◌, ◌*◌, ◌^◌, ◌<◌, ◌≤◌, Bool, true, false, not, List, [], ◌∷◌, ◌++◌, map, length, take, drop, get_or, refl, sym, ◌∙◌, ap, subst, arith}
use Rattle.std.specs.Prelude.{if◌then◌else◌}
use Rattle.std.proofs.lemmas.List.{take_more, map_push, length-map, length-take-le, take_all, map-append, get_or-replicate, length-replicate}
use Rattle.std.proofs.Common.{replicate}
use Rattle.sat_formula.proofs.GateClauses.{lit_value-negation}
use Rattle.word_blaster.proofs.Signs.{sign-push, taken-push}
use Rattle.std.proofs.lemmas.List.Elements.{All-nil, All-append, All-weaker, All-take, All-drop, All-push, All-map}
use Rattle.sat_formula.specs.declared.lit.Lit.{Lit}
use Rattle.sat_formula.specs.Lit.{lit_value, IsBelow, differ}
use Rattle.word_blaster.specs.Word.{bit, number, sign, taken, values, WordBelow}
use Rattle.word_blaster.proofs.Bits.{number-push, number_lt}

pub WordBelow-nil : (n : ℕ) → WordBelow n []
unfolding WordBelow
WordBelow-nil n = All-nil (IsBelow n)

pub WordBelow-later : (m n : ℕ) (w : List Lit) → WordBelow m w → m ≤ n → WordBelow n w
unfolding WordBelow
WordBelow-later m n w h le = All-weaker (IsBelow m) (IsBelow n) (λ l b. omega arith) w h

pub WordBelow-push : (n : ℕ) (w : List Lit) (l : Lit) → WordBelow n w → l.var < n → WordBelow n (w ++ l ∷ [])
unfolding WordBelow
WordBelow-push n w l h b = All-push (IsBelow n) w l h b

pub WordBelow-append : (n : ℕ) (v w : List Lit) → WordBelow n v → WordBelow n w → WordBelow n (v ++ w)
unfolding WordBelow
WordBelow-append n v w g h = All-append (IsBelow n) v w g h

pub WordBelow-take : (n k : ℕ) (w : List Lit) → WordBelow n w → WordBelow n (take k w)
unfolding WordBelow
WordBelow-take n k w h = All-take (IsBelow n) k w h

pub WordBelow-drop : (n k : ℕ) (w : List Lit) → WordBelow n w → WordBelow n (drop k w)
unfolding WordBelow
WordBelow-drop n k w h = All-drop (IsBelow n) k w h

-- a literal that was read at an index
pub WordBelow-at : (n : ℕ) (w : List Lit) (i : ℕ) (l : Lit) → l ≡ get_or w i l → WordBelow n w → i < length w → l.var < n
unfolding WordBelow
WordBelow-at n w i l e h lt = rw (← e) at (h i l lt)

pub WordBelow-get : (m n : ℕ) (w : List Lit) (i : ℕ) (d : Lit) → WordBelow m w → i < length w → m ≤ n → (get_or w i d).var < n
unfolding WordBelow
WordBelow-get m n w i d h lt le = let p = h i d lt in omega arith

pub values-push : (w : List Lit) (l : Lit) (a : List Bool) → values (w ++ l ∷ []) a ≡ values w a ++ lit_value l a ∷ []
values-push w l a = map_push (λ l. lit_value l a) w l

pub values-length : (w : List Lit) (a : List Bool) → length (values w a) ≡ length w
values-length w a = length-map w (λ l. lit_value l a)

-- one more literal
pub number-values-push : (w : List Lit) (l : Lit) (a : List Bool) (i : ℕ) → length w ≡ i → number (values (w ++ l ∷ []) a) ≡ number (values w a) + bit (lit_value l a) * 2 ^ i
number-values-push w l a i e =
    ap number (values-push w l a) ∙ number-push (values w a) (lit_value l a) ∙ ap (λ (k : ℕ). number (values w a) + bit (lit_value l a) * 2 ^ k) (values-length w a ∙ e)

-- the first i + 1 literals of a word, the last of which was read
pub number-values-more : (w : List Lit) (d : Lit) (a : List Bool) (i : ℕ) → i < length w → number (values (take (i + 1) w) a) ≡ number (values (take i w) a) + bit (lit_value (get_or w i d) a) * 2 ^ i
number-values-more w d a i lt =
    let n : length (take i w) ≡ i = length-take-le i w (omega arith) in
    ap (λ (v : List Lit). number (values v a)) (take_more w i d lt) ∙ number-values-push (take i w) (get_or w i d) a i n

pub adder_bits : (x y z : Bool) → bit (differ (differ x y) z) + 2 * bit (if differ x y then z else x) ≡ bit x + bit y + bit z
adder_bits true true true = refl
adder_bits true true false = refl
adder_bits true false true = refl
adder_bits true false false = refl
adder_bits false true true = refl
adder_bits false true false = refl
adder_bits false false true = refl
adder_bits false false false = refl

-- one more place of a sum
pub place_added : (n m k h h' s c x y z u : ℕ) → n + z * h ≡ m + k + u → s + 2 * c ≡ x + y + z → h' ≡ 2 * h → n + s * h + c * h' ≡ m + x * h + (k + y * h) + u
place_added n m k h h' s c x y z u e g d =
    let t : (s + 2 * c) * h ≡ (x + y + z) * h = ap (λ (t : ℕ). t * h) g in
    let v : c * h' ≡ c * (2 * h) = ap (λ (t : ℕ). c * t) d in
    omega (arith, t, v)

-- nothing yet
pub number-values-nil : (w : List Lit) (a : List Bool) → w ≡ [] → number (values w a) ≡ 0
unfolding number
number-values-nil w a e = ap (λ (v : List Lit). number (values v a)) e

pub number-nil : number [] ≡ 0
unfolding number
number-nil = refl

-- ---- signs of words

pub values-more : (w : List Lit) (d : Lit) (a : List Bool) (i : ℕ) → i < length w → values (take (i + 1) w) a ≡ values (take i w) a ++ lit_value (get_or w i d) a ∷ []
values-more w d a i lt = ap (λ (v : List Lit). values v a) (take_more w i d lt) ∙ values-push (take i w) (get_or w i d) a

pub length-values-take : (w : List Lit) (a : List Bool) (i : ℕ) → i ≤ length w → length (values (take i w) a) ≡ i
length-values-take w a i le = values-length (take i w) a ∙ length-take-le i w le

pub sign-values-more : (w : List Lit) (d : Lit) (a : List Bool) (i : ℕ) → i < length w → sign (values (take (i + 1) w) a) ≡ lit_value (get_or w i d) a
sign-values-more w d a i lt = ap sign (values-more w d a i lt) ∙ sign-push (values (take i w) a) (lit_value (get_or w i d) a)

pub sign-values-take : (w : List Lit) (d : Lit) (a : List Bool) (i : ℕ) → 0 < i → i ≤ length w → sign (values (take i w) a) ≡ lit_value (get_or w (i - 1) d) a
sign-values-take w d a i some le =
    let e : i ≡ i - 1 + 1 = omega arith in
    ap (λ (k : ℕ). sign (values (take k w) a)) e ∙ sign-values-more w d a (i - 1) (omega arith)

pub sign-values : (w : List Lit) (d : Lit) (a : List Bool) → 0 < length w → sign (values w a) ≡ lit_value (get_or w (length w - 1) d) a
sign-values w d a some =
    ap (λ (v : List Lit). sign (values v a)) (sym (take_all (length w) w (omega arith))) ∙ sign-values-take w d a (length w) some (omega arith)

pub turned-value : (l m : Lit) (a : List Bool) → m ≡ record { var = l.var; neg = not l.neg } → lit_value m a ≡ not (lit_value l a)
turned-value l m a e = ap (λ (x : Lit). lit_value x a) e ∙ lit_value-negation l a

pub values-not : (w : List Lit) (a : List Bool) → values (map (λ (l : Lit). record { var = l.var; neg = not l.neg }) w) a ≡ map not (values w a)
values-not [] a = refl
values-not (l ∷ w) a = rw (lit_value-negation l a, values-not w a)

pub WordBelow-not : (n : ℕ) (w : List Lit) → WordBelow n w → WordBelow n (map (λ (l : Lit). record { var = l.var; neg = not l.neg }) w)
unfolding WordBelow
WordBelow-not n w h = All-map (IsBelow n) (λ (l : Lit). record { var = l.var; neg = not l.neg }) w h

pub WordBelow-replicate : (n k : ℕ) (l : Lit) → l.var < n → WordBelow n (replicate k l)
unfolding WordBelow
WordBelow-replicate n k l h = λ i d lt. let e = get_or-replicate k i l d (omega (arith, length-replicate k l)) in subst (λ (x : Lit). x.var < n) (sym e) h

pub number-values-lt : (w : List Lit) (a : List Bool) (i : ℕ) → i ≤ length w → number (values (take i w) a) < 2 ^ i
number-values-lt w a i le = subst (λ (k : ℕ). number (values (take i w) a) < 2 ^ k) (length-values-take w a i le) (number_lt (values (take i w) a))

pub values-last : (w : List Lit) (d : Lit) (a : List Bool) (i : ℕ) → length w ≡ i + 1 → values w a ≡ values (take i w) a ++ lit_value (get_or w i d) a ∷ []
values-last w d a i e = ap (λ (v : List Lit). values v a) (sym (take_all (i + 1) w (omega arith))) ∙ values-more w d a i (omega arith)

pub values-append : (v w : List Lit) (a : List Bool) → values (v ++ w) a ≡ values v a ++ values w a
values-append v w a = map-append (λ l. lit_value l a) v w

pub number-values-last : (w : List Lit) (d : Lit) (a : List Bool) (i : ℕ) → length w ≡ i + 1 → number (values w a) ≡ number (values (take i w) a) + bit (lit_value (get_or w i d) a) * 2 ^ i
number-values-last w d a i e =
    ap number (values-last w d a i e) ∙ number-push (values (take i w) a) (lit_value (get_or w i d) a)
    ∙ ap (λ (k : ℕ). number (values (take i w) a) + bit (lit_value (get_or w i d) a) * 2 ^ k) (length-values-take w a i (omega arith))

pub taken-values-last : (w : List Lit) (d : Lit) (a : List Bool) (i : ℕ) → length w ≡ i + 1 → taken (values w a) ≡ bit (lit_value (get_or w i d) a) * (2 * 2 ^ i)
taken-values-last w d a i e =
    ap taken (values-last w d a i e) ∙ taken-push (values (take i w) a) (lit_value (get_or w i d) a)
    ∙ ap (λ (k : ℕ). bit (lit_value (get_or w i d) a) * (2 * 2 ^ k)) (length-values-take w a i (omega arith))

pub WordBelow-cons : (n : ℕ) (l : Lit) (w : List Lit) → l.var < n → WordBelow n w → WordBelow n (l ∷ w)
unfolding WordBelow
WordBelow-cons n l w b h = All-append (IsBelow n) (l ∷ []) w (All-push (IsBelow n) [] l (All-nil (IsBelow n)) b) h

pub ruleset words = (WordBelow-later, WordBelow-push, WordBelow-nil, WordBelow-get)
