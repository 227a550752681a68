-- Products of signed numbers, as differences of natural numbers.
use Rattle.std.proofs.Common.{◌≡◌, ℕ, suc, ◌+◌, ◌-◌, ◌*◌, ◌^◌, ◌<◌, Bool, true, false, ◌&&◌, List, [], ◌∷◌, ◌++◌, map, length, drop, get_or, refl, sym, ◌∙◌, ap, arith, inl, inr, length-append}
use Rattle.std.specs.Prelude.{ℤ, pos, neg_ℤ, ◌-ℤ◌, ◌*ℤ◌}
use Rattle.std.proofs.lemmas.List.{length-map}
use Rattle.std.proofs.lemmas.Int.{ints}
use lib.IntN.{pos-*ℤ-pos, pos-*ℤ-negsuc, negsuc-*ℤ-pos, negsuc-*ℤ-negsuc}
use Rattle.sat_formula.specs.declared.lit.Lit.{Lit}
use Rattle.sat_formula.specs.Lit.{lit_value}
use Rattle.word_blaster.specs.Word.{bit, number, taken, signed, values}
use Rattle.word_blaster.proofs.Bits.{double_pow, number-cons}
use Rattle.word_blaster.proofs.Signs.{difference_cases, taken-zero}

-- ---- the lowest bit

pub taken-cons : (b : Bool) (bs : List Bool) → 0 < length bs → taken (b ∷ bs) ≡ 2 * taken bs
unfolding taken
taken-cons b [] some = elim some [ ]
taken-cons b (c ∷ bs) some =
    let k : suc (suc (length bs)) - 1 ≡ suc (length bs) = omega arith in
    let m : length bs ≡ suc (length bs) - 1 = omega arith in
    let o : suc (suc (length bs)) ≡ suc (length bs) + 1 = omega arith in
    let d : 2 ^ suc (suc (length bs)) ≡ 2 * 2 ^ suc (length bs) = ap (λ (k : ℕ). 2 ^ k) o ∙ double_pow (suc (length bs)) in
    let s : get_or (b ∷ c ∷ bs) (suc (suc (length bs)) - 1) false ≡ get_or (c ∷ bs) (suc (length bs) - 1) false =
    ap (λ (k : ℕ). get_or (b ∷ c ∷ bs) k false) k ∙ ap (λ (k : ℕ). get_or (c ∷ bs) k false) m in
    let e : bit (get_or (b ∷ c ∷ bs) (suc (suc (length bs)) - 1) false) * 2 ^ suc (suc (length bs)) ≡ bit (get_or (c ∷ bs) (suc (length bs) - 1) false) * (2 * 2 ^ suc (length bs)) =
    ap (λ (t : Bool). bit t * 2 ^ suc (suc (length bs))) s ∙ ap (λ (k : ℕ). bit (get_or (c ∷ bs) (suc (length bs) - 1) false) * k) d in
    omega (arith, e)

pub values-first : (w : List Lit) (d : Lit) (a : List Bool) → 0 < length w → values w a ≡ lit_value (get_or w 0 d) a ∷ values (drop 1 w) a
values-first [] d a some = elim some [ ]
values-first (l ∷ w) d a some = refl

pub number-first : (w : List Lit) (d : Lit) (a : List Bool) → 0 < length w → number (values w a) ≡ bit (lit_value (get_or w 0 d) a) + 2 * number (values (drop 1 w) a)
number-first w d a some = ap number (values-first w d a some) ∙ number-cons _ _

pub taken-first : (w : List Lit) (d : Lit) (a : List Bool) → 1 < length w → taken (values w a) ≡ 2 * taken (values (drop 1 w) a)
taken-first [] d a some = elim some [ ]
taken-first (l ∷ []) d a some = absurd (omega arith)
taken-first (l ∷ k ∷ w) d a some = taken-cons (lit_value l a) (lit_value k a ∷ values w a) (omega arith)

pub taken-append : (xs ys : List Bool) → 0 < length ys → taken (xs ++ ys) ≡ 2 ^ length xs * taken ys
taken-append [] ys some = omega arith
taken-append (x ∷ xs) ys some =
    let o : suc (length xs) ≡ length xs + 1 = omega arith in
    let d : 2 ^ suc (length xs) ≡ 2 * 2 ^ length xs = ap (λ (k : ℕ). 2 ^ k) o ∙ double_pow (length xs) in
    let e : 2 ^ suc (length xs) * taken ys ≡ 2 * 2 ^ length xs * taken ys = ap (λ (k : ℕ). k * taken ys) d in
    omega (arith, taken-cons x (xs ++ ys) (omega (arith, length-append xs ys)), taken-append xs ys some, e)

-- ---- bits under a mask

mask-true : (bs : List Bool) → map (λ b. b && true) bs ≡ bs
mask-true [] = refl
mask-true (true ∷ bs) = ap (λ (cs : List Bool). true ∷ cs) (mask-true bs)
mask-true (false ∷ bs) = ap (λ (cs : List Bool). false ∷ cs) (mask-true bs)

mask-false : (bs : List Bool) → number (map (λ b. b && false) bs) ≡ 0
unfolding number
mask-false [] = refl
mask-false (true ∷ bs) = omega (arith, mask-false bs)
mask-false (false ∷ bs) = omega (arith, mask-false bs)

pub number-mask : (m : Bool) (bs : List Bool) → number (map (λ b. b && m) bs) ≡ bit m * number bs
number-mask true bs = ap number (mask-true bs) ∙ omega arith
number-mask false bs = mask-false bs ∙ omega arith

pub taken-mask : (m : Bool) (bs : List Bool) → 0 < length bs → taken (map (λ b. b && m) bs) ≡ bit m * taken bs
taken-mask true bs some = ap taken (mask-true bs) ∙ omega arith
taken-mask false bs some = taken-zero (map (λ b. b && false) bs) (omega (arith, length-map bs (λ b. b && false))) (mask-false bs) ∙ omega arith

-- ---- the step and the end

pub product_step : (h h' p t p' t' n q m b y l : ℕ) → h * p + l + q * m ≡ n * m + h * t → b + 2 * p' + t + y * q ≡ p + y * n + 2 * t' → h' ≡ 2 * h
    → h' * p' + (l + b * h) + q * (m + y * h) ≡ n * (m + y * h) + h' * t'
product_step h h' p t p' t' n q m b y l e f g =
    let i : h * (b + 2 * p' + t + y * q) ≡ h * (p + y * n + 2 * t') = ap (λ (k : ℕ). h * k) f in
    let j : h' * p' ≡ 2 * h * p' = ap (λ (k : ℕ). k * p') g in
    let k : h' * t' ≡ 2 * h * t' = ap (λ (k : ℕ). k * t') g in
    omega (arith, e, i, j, k)

pub product_end : (h p t dn dt n q m y l : ℕ) → h * p + l + q * m ≡ n * m + h * t → dn + t + y * n ≡ p + y * q + dt
    → (l + h * dn) + (n * (y * (2 * h)) + q * (m + y * h)) ≡ n * (m + y * h) + q * (y * (2 * h)) + h * dt
product_end h p t dn dt n q m y l e f =
    let i : h * (dn + t + y * n) ≡ h * (p + y * q + dt) = ap (λ (k : ℕ). h * k) f in
    omega (arith, e, i)

-- ---- as whole numbers

times : (x x' y y' : ℤ) → x ≡ x' → y ≡ y' → x *ℤ y ≡ x' *ℤ y'
times x x' y y' e f = ap (λ (z : ℤ). z *ℤ y) e ∙ ap (λ (z : ℤ). x' *ℤ z) f

product_numbers : (p k q r j s : ℕ) → p ≡ q + k → r ≡ s + j → p * r ≡ (q + k) * (s + j)
product_numbers p k q r j s e f = ap (λ (z : ℕ). z * r) e ∙ ap (λ (z : ℕ). (q + k) * z) f

both_up : (p q r s n t k j : ℕ) → p ≡ q + k → r ≡ s + j → n + (p * s + q * r) ≡ p * r + q * s + t → n ≡ k * j + t
both_up p q r s n t k j e f g =
    let a : p * s ≡ (q + k) * s = ap (λ (z : ℕ). z * s) e in
    let b : q * r ≡ q * (s + j) = ap (λ (z : ℕ). q * z) f in
    omega (arith, g, a, b, product_numbers p k q r j s e f)

-- the product of two differences
pub difference_product : (p q r s n t : ℕ) → n + (p * s + q * r) ≡ p * r + q * s + t → pos n -ℤ pos t ≡ (pos p -ℤ pos q) *ℤ (pos r -ℤ pos s)
difference_product p q r s n t e = elim (difference_cases p q) [
  | inl x ↦ elim (difference_cases r s) [
    | inl y ↦ let l = x.0 in let m = y.0 in
        let k : n ≡ (p - q) * (r - s) + t = both_up p q r s n t (p - q) (r - s) (omega arith) (omega arith) e in
        let z : pos n -ℤ pos t ≡ pos ((p - q) * (r - s)) = omega (arith, ints, k) in
        z ∙ sym (times _ _ _ _ x.1 y.1 ∙ pos-*ℤ-pos (p - q) (r - s))
    | inr y ↦ let l = x.0 in let m = y.0 in
        let k : t ≡ (p - q) * suc (s - r - 1) + n = both_up p q s r t n (p - q) (suc (s - r - 1)) (omega arith) (omega arith) (omega (arith, e)) in
        let z : pos n -ℤ pos t ≡ neg_ℤ (pos ((p - q) * suc (s - r - 1))) = omega (arith, ints, k) in
        z ∙ sym (times _ _ _ _ x.1 y.1 ∙ pos-*ℤ-negsuc (p - q) (s - r - 1))
  ]
  | inr x ↦ elim (difference_cases r s) [
    | inl y ↦ let l = x.0 in let m = y.0 in
        let k : t ≡ suc (q - p - 1) * (r - s) + n = both_up q p r s t n (suc (q - p - 1)) (r - s) (omega arith) (omega arith) (omega (arith, e)) in
        let z : pos n -ℤ pos t ≡ neg_ℤ (pos (suc (q - p - 1) * (r - s))) = omega (arith, ints, k) in
        z ∙ sym (times _ _ _ _ x.1 y.1 ∙ negsuc-*ℤ-pos (q - p - 1) (r - s))
    | inr y ↦ let l = x.0 in let m = y.0 in
        let k : n ≡ suc (q - p - 1) * suc (s - r - 1) + t = both_up q p s r n t (suc (q - p - 1)) (suc (s - r - 1)) (omega arith) (omega arith) (omega (arith, e)) in
        let z : pos n -ℤ pos t ≡ pos (suc (q - p - 1) * suc (s - r - 1)) = omega (arith, ints, k) in
        z ∙ sym (times _ _ _ _ x.1 y.1 ∙ negsuc-*ℤ-negsuc (q - p - 1) (s - r - 1))
  ]
]

pub signed_product : (xs ys out : List Bool) → number out + (number xs * taken ys + taken xs * number ys) ≡ number xs * number ys + taken xs * taken ys + taken out → signed out ≡ signed xs *ℤ signed ys
unfolding signed
signed_product xs ys out e = difference_product (number xs) (taken xs) (number ys) (taken ys) (number out) (taken out) e
