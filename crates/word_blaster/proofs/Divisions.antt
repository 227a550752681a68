-- Long division of signed numbers by a number above 0.
use Rattle.std.proofs.Common.{◌≡◌, ℕ, zero, suc, ◌+◌, ◌-◌, ◌*◌, ◌/◌, ◌%◌, ◌^◌, ◌<◌, ◌≤◌, Bool, true, false, not, ◌&&◌, List, [], ◌∷◌, ◌++◌, map, length, take, drop, refl, sym, ◌∙◌, ap, arith, subst, inl, inr, replicate}
use Rattle.std.specs.Prelude.{ℤ, pos, negsuc, ◌-ℤ◌, if◌then◌else◌}
use Rattle.std.proofs.lemmas.List.{take-append-drop, length-take-le, take_all}
use Rattle.std.proofs.lemmas.Bool.{cases_lt}
use Rattle.std.proofs.lemmas.Int.{ints}
use Rattle.std.proofs.lemmas.Nat.{div-mul-add, mod-mul-add}
use Rattle.sat_formula.specs.declared.lit.Lit.{Lit}
use Rattle.sat_formula.specs.Lit.{lit_value}
use Rattle.word_blaster.specs.Word.{bit, number, taken, sign, signed, values}
use Rattle.word_blaster.specs.Quotient.{floor_quotient, floor_remainder}
use Rattle.word_blaster.specs.inner.Division.{IsDivideStep, IsFirstRest, IsDivided}
use Rattle.word_blaster.proofs.Bits.{double_pow, number-cons, number-append, number-push, number_lt, bit-le}
use Rattle.word_blaster.proofs.Signs.{signed_parts, number-not, difference_cases, taken-push}
use Rattle.word_blaster.proofs.Multiples.{taken-cons, number-mask}

-- a number without a sign bit needs one bit less
half_numbers : (s : Bool) (p low half w : ℕ) → s ≡ false → low < half → w ≡ 2 * half → p ≡ low + bit s * half → 2 * p < w
half_numbers true p low half w e a b c = absurd (cc)
half_numbers false p low half w e a b c = omega arith

pub number_half : (bs : List Bool) → 0 < length bs → sign bs ≡ false → 2 * number bs < 2 ^ length bs
number_half bs some e =
    let p = signed_parts bs some in
    half_numbers (sign bs) (number bs) _ _ (2 ^ length bs) e p.low_lt p.power p.number_is

none_above : (n m h d : ℕ) → n ≡ m + h * d → n < h → m ≡ n
none_above n m h zero e lt = omega arith
none_above n m h (suc d) e lt = absurd (omega arith)

-- a small number is in its low bits
pub take_small : (bs : List Bool) (k : ℕ) → number bs < 2 ^ k → number (take k bs) ≡ number bs
take_small bs k lt = elim (cases_lt (length bs) k) [
  | inl l ↦ ap number (take_all k bs (omega arith))
  | inr l ↦
      let e : number bs ≡ number (take k bs) + 2 ^ length (take k bs) * number (drop k bs) = ap number (sym (take-append-drop k bs)) ∙ number-append (take k bs) (drop k bs) in
      let n : number bs ≡ number (take k bs) + 2 ^ k * number (drop k bs) = e ∙ ap (λ (i : ℕ). number (take k bs) + 2 ^ i * number (drop k bs)) (length-take-le k bs l) in
      none_above (number bs) (number (take k bs)) (2 ^ k) (number (drop k bs)) n lt
]

-- ---- one step

step_taken : (b : Bool) (ys rest diff : List Bool) (k : ℕ) → length ys ≡ k + 1 → length diff ≡ k + 1
    → number diff + 1 * 2 ^ (k + 1) ≡ number (b ∷ rest) + number (map not ys) + 1 → sign ys ≡ false → number rest < number ys
    → (bit b + 2 * number rest ≡ 1 * number ys + number (take k diff)) × (number (take k diff) < number ys)
step_taken b ys rest diff k yl dl e s lt =
    let n = number-not ys in
    let p : 2 ^ length ys ≡ 2 * 2 ^ k = ap (λ (i : ℕ). 2 ^ i) yl ∙ double_pow k in
    let d = double_pow k in
    let h = number_half ys (omega arith) s in
    let c = number-cons b rest in
    let l = bit-le b in
    let t = take_small diff k (omega arith) in
    (omega arith, omega arith)

step_left : (b : Bool) (ys rest diff : List Bool) (k : ℕ) → length ys ≡ k + 1 → length diff ≡ k + 1
    → number diff + 0 * 2 ^ (k + 1) ≡ number (b ∷ rest) + number (map not ys) + 1 → sign ys ≡ false → number rest < number ys
    → (bit b + 2 * number rest ≡ 0 * number ys + number (take k (b ∷ rest))) × (number (take k (b ∷ rest)) < number ys)
step_left b ys rest diff k yl dl e s lt =
    let n = number-not ys in
    let p : 2 ^ length ys ≡ 2 * 2 ^ k = ap (λ (i : ℕ). 2 ^ i) yl ∙ double_pow k in
    let d = double_pow k in
    let h = number_half ys (omega arith) s in
    let c = number-cons b rest in
    let m : number diff < 2 ^ (k + 1) = subst (λ (i : ℕ). number diff < 2 ^ i) dl (number_lt diff) in
    let t = take_small (b ∷ rest) k (omega arith) in
    (omega arith, omega arith)

pub divide_step_is : (q b : Bool) (ys rest diff left : List Bool) (k : ℕ) → length ys ≡ k + 1 → length diff ≡ k + 1
    → number diff + bit q * 2 ^ (k + 1) ≡ number (b ∷ rest) + number (map not ys) + 1
    → left ≡ (if q then take k diff else take k (b ∷ rest)) → IsDivideStep b ys rest q left
divide_step_is true b ys rest diff left k yl dl e f = record {
  same = λ s lt. let r = step_taken b ys rest diff k yl dl e s lt in omega (arith, r.0, ap number f);
  smaller = λ s lt. let r = step_taken b ys rest diff k yl dl e s lt in omega (arith, r.1, ap number f);
}
divide_step_is false b ys rest diff left k yl dl e f = record {
  same = λ s lt. let r = step_left b ys rest diff k yl dl e s lt in omega (arith, r.0, ap number f);
  smaller = λ s lt. let r = step_left b ys rest diff k yl dl e s lt in omega (arith, r.1, ap number f);
}

-- ---- the start

first_numbers : (l s c : Bool) (n m o p left h : ℕ) → n + bit c * h ≡ p + o + 0 → o + 1 ≡ h → n < h → m ≡ p + bit s * h → left ≡ bit l * n → s ≡ false → 0 < m → p < h → left + bit l ≡ bit l * m
first_numbers l true c n m o p left h e f g i j k some w = absurd (cc)
first_numbers true false true n m o p left h e f g i j k some w = omega arith
first_numbers true false false n m o p left h e f g i j k some w = omega arith
first_numbers false false c n m o p left h e f g i j k some w = omega arith

first_smaller : (l : Bool) (left m : ℕ) → left + bit l ≡ bit l * m → 0 < m → left < m
first_smaller true left m e some = omega arith
first_smaller false left m e some = omega arith

pub first_rest_is : (l s c : Bool) (ys less left : List Bool) (o p h : ℕ) → sign ys ≡ s → number less + bit c * h ≡ p + o + 0 → o + 1 ≡ h → number less < h
    → number ys ≡ p + bit s * h → p < h → left ≡ map (λ b. b && l) less → IsFirstRest l ys left
first_rest_is l s c ys less left o p h t e f g i w j =
    let n : number left ≡ bit l * number less = ap number j ∙ number-mask l less in
    record {
      same = λ z some. first_numbers l s c (number less) (number ys) o p (number left) h e f g i n (sym t ∙ z) some w;
      smaller = λ z some. first_smaller l (number left) (number ys) (first_numbers l s c (number less) (number ys) o p (number left) h e f g i n (sym t ∙ z) some w) some;
    }

-- -1 or 0 divided
pub divided_sign : (s : Bool) (ys left : List Bool) → IsFirstRest s ys left → IsDivided ys (s ∷ []) (s ∷ []) left
unfolding number
divided_sign s ys left f = record {
  same = λ z some.
      let e = f.same z some in
      let t : taken (s ∷ []) ≡ bit s * 2 = taken-push [] s ∙ omega arith in
      let m : taken (s ∷ []) * number ys ≡ bit s * 2 * number ys = ap (λ (k : ℕ). k * number ys) t in
      omega (arith, e, t, m);
  smaller = λ z some. f.smaller z some;
}

-- ---- one bit more

pub divided_more : (b q : Bool) (ys xs quotient rest left : List Bool) → 0 < length xs → 0 < length quotient
    → IsDivided ys xs quotient rest → IsDivideStep b ys rest q left → IsDivided ys (b ∷ xs) (q ∷ quotient) left
divided_more b q ys xs quotient rest left xsome qsome d s = record {
  same = λ z some.
      let e = d.same z some in
      let f = s.same z (d.smaller z some) in
      let t : taken (q ∷ quotient) * number ys ≡ 2 * taken quotient * number ys = ap (λ (k : ℕ). k * number ys) (taken-cons q quotient qsome) in
      let n : number (q ∷ quotient) * number ys ≡ (bit q + 2 * number quotient) * number ys = ap (λ (k : ℕ). k * number ys) (number-cons q quotient) in
      omega (arith, e, f, t, n, taken-cons b xs xsome, number-cons b xs);
  smaller = λ z some. s.smaller z (d.smaller z some);
}

-- ---- as whole numbers

plus_rest : (s r : ℕ) → s ≤ r → r ≡ s + (r - s)
plus_rest s r h = omega arith

plus_more : (r s : ℕ) → r < s → s ≡ r + suc (s - r - 1)
plus_more r s h = omega arith

quotient_is : (p q r s n m : ℕ) → p + s * n ≡ r * n + m + q → m < n → pos r -ℤ pos s ≡ floor_quotient (pos p -ℤ pos q) n
quotient_is p q r s n m e lt = elim (difference_cases p q) [
  | inl x ↦ elim (difference_cases r s) [
    | inl y ↦ let i = x.0 in let j = y.0 in
        let f : r * n ≡ (s + (r - s)) * n = ap (λ (k : ℕ). k * n) (plus_rest s r j) in
        let g : p - q ≡ (r - s) * n + m = omega (arith, e, f) in
        y.1 ∙ ap pos (sym (ap (λ (k : ℕ). k / n) g ∙ div-mul-add (r - s) n m lt)) ∙ ap (λ (z : ℤ). floor_quotient z n) (sym x.1)
    | inr y ↦ let i = x.0 in let j = y.0 in
        let f : s * n ≡ (r + suc (s - r - 1)) * n = ap (λ (k : ℕ). k * n) (plus_more r s j) in
        absurd (omega (arith, e, f))
  ]
  | inr x ↦ elim (difference_cases r s) [
    | inl y ↦ let i = x.0 in let j = y.0 in
        let f : r * n ≡ (s + (r - s)) * n = ap (λ (k : ℕ). k * n) (plus_rest s r j) in
        absurd (omega (arith, e, f))
    | inr y ↦ let i = x.0 in let j = y.0 in
        let f : s * n ≡ (r + suc (s - r - 1)) * n = ap (λ (k : ℕ). k * n) (plus_more r s j) in
        let g : q - p - 1 ≡ (s - r - 1) * n + (n - 1 - m) = omega (arith, e, f) in
        y.1 ∙ ap negsuc (sym (ap (λ (k : ℕ). k / n) g ∙ div-mul-add (s - r - 1) n (n - 1 - m) (omega arith))) ∙ ap (λ (z : ℤ). floor_quotient z n) (sym x.1)
  ]
]

remainder_is : (p q r s n m : ℕ) → p + s * n ≡ r * n + m + q → m < n → pos m ≡ floor_remainder (pos p -ℤ pos q) n
remainder_is p q r s n m e lt = elim (difference_cases p q) [
  | inl x ↦ elim (difference_cases r s) [
    | inl y ↦ let i = x.0 in let j = y.0 in
        let f : r * n ≡ (s + (r - s)) * n = ap (λ (k : ℕ). k * n) (plus_rest s r j) in
        let g : p - q ≡ (r - s) * n + m = omega (arith, e, f) in
        ap pos (sym (ap (λ (k : ℕ). k % n) g ∙ mod-mul-add (r - s) n m lt)) ∙ ap (λ (z : ℤ). floor_remainder z n) (sym x.1)
    | inr y ↦ let i = x.0 in let j = y.0 in
        let f : s * n ≡ (r + suc (s - r - 1)) * n = ap (λ (k : ℕ). k * n) (plus_more r s j) in
        absurd (omega (arith, e, f))
  ]
  | inr x ↦ elim (difference_cases r s) [
    | inl y ↦ let i = x.0 in let j = y.0 in
        let f : r * n ≡ (s + (r - s)) * n = ap (λ (k : ℕ). k * n) (plus_rest s r j) in
        absurd (omega (arith, e, f))
    | inr y ↦ let i = x.0 in let j = y.0 in
        let f : s * n ≡ (r + suc (s - r - 1)) * n = ap (λ (k : ℕ). k * n) (plus_more r s j) in
        let g : q - p - 1 ≡ (s - r - 1) * n + (n - 1 - m) = omega (arith, e, f) in
        let t : (q - p - 1) % n ≡ n - 1 - m = ap (λ (k : ℕ). k % n) g ∙ mod-mul-add (s - r - 1) n (n - 1 - m) (omega arith) in
        let u : m ≡ n - 1 - (q - p - 1) % n = omega (arith, t) in
        ap pos u ∙ ap (λ (z : ℤ). floor_remainder z n) (sym x.1)
  ]
]

pub divided_quotient : (ys xs quotient left : List Bool) (n : ℕ) → IsDivided ys xs quotient left → sign ys ≡ false → number ys ≡ suc n → signed quotient ≡ floor_quotient (signed xs) (suc n)
unfolding signed
divided_quotient ys xs quotient left n d s e =
    let f = subst (λ (k : ℕ). number xs + taken quotient * k ≡ number quotient * k + number left + taken xs) e (d.same s (omega arith)) in
    quotient_is (number xs) (taken xs) (number quotient) (taken quotient) (suc n) (number left) f (subst (λ (k : ℕ). number left < k) e (d.smaller s (omega arith)))

pub divided_remainder : (ys xs quotient left : List Bool) (n : ℕ) → IsDivided ys xs quotient left → sign ys ≡ false → number ys ≡ suc n → signed (left ++ false ∷ []) ≡ floor_remainder (signed xs) (suc n)
unfolding signed
divided_remainder ys xs quotient left n d s e =
    let f = subst (λ (k : ℕ). number xs + taken quotient * k ≡ number quotient * k + number left + taken xs) e (d.same s (omega arith)) in
    let r : pos (number (left ++ false ∷ [])) -ℤ pos (taken (left ++ false ∷ [])) ≡ pos (number left) = omega (arith, ints, number-push left false, taken-push left false) in
    r ∙ remainder_is (number xs) (taken xs) (number quotient) (taken quotient) (suc n) (number left) f (subst (λ (k : ℕ). number left < k) e (d.smaller s (omega arith)))

-- a number above 0 has no sign
positive_numbers : (s : Bool) (p q low half n : ℕ) → low < half → p ≡ low + bit s * half → q ≡ bit s * (2 * half) → pos p -ℤ pos q ≡ pos (suc n) → (s ≡ false) × (p ≡ suc n)
positive_numbers true p q low half n a b c e = absurd (omega (arith, ints, e))
positive_numbers false p q low half n a b c e = (refl, omega (arith, ints, e))

pub positive_is : (ys : List Bool) (n : ℕ) → 0 < length ys → signed ys ≡ pos (suc n) → (sign ys ≡ false) × (number ys ≡ suc n)
unfolding signed
positive_is ys n some e =
    let p = signed_parts ys some in
    positive_numbers (sign ys) (number ys) (taken ys) _ _ n p.low_lt p.number_is p.taken_is e

pub number-ones : (k : ℕ) (l : Lit) (a : List Bool) → lit_value l a ≡ true → number (values (replicate k l) a) + 1 ≡ 2 ^ k
unfolding number
number-ones zero l a e = refl
number-ones (suc k) l a e =
    let b : bit (lit_value l a) ≡ 1 = ap bit e in
    let o : suc k ≡ k + 1 = omega arith in
    let d : 2 ^ suc k ≡ 2 * 2 ^ k = ap (λ (i : ℕ). 2 ^ i) o ∙ double_pow k in
    omega (arith, b, number-ones k l a e, d)
