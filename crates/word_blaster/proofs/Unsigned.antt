-- Numbers without a sign.
use Rattle.std.proofs.Common.{◌≡◌, ℕ, ◌+◌, ◌*◌, ◌^◌, ◌<◌, ◌≤◌, Bool, true, false, ◌&&◌, List, [], ◌∷◌, ◌++◌, length, refl, sym, ◌∙◌, ◌/◌, ap, arith, pos, ◌-ℤ◌, inl, inr}
use Rattle.std.specs.Prelude.{◌⊎◌}
use Rattle.std.proofs.Math.Nat.{div-eq_of_lt}
use Rattle.std.proofs.lemmas.Bool.{cases_order}
use lib.Dec.{eqb}
use mathlib.Core.Bool.{false≢true}
use Rattle.std.proofs.Math.Pow.{pow_mono}
use Rattle.std.proofs.lemmas.Int.{ints}
use Rattle.sat_formula.specs.Lit.{differ}
use Rattle.word_blaster.specs.Word.{bit, number, taken, signed}
use Rattle.word_blaster.proofs.Bits.{number-push}
use Rattle.word_blaster.proofs.Signs.{signed-is, taken-push}

pub room : (n k : ℕ) → n < 2 ^ 64 → 64 ≤ k → n < 2 ^ k
room n k h le = let m : 2 ^ 64 ≤ 2 ^ k = pow_mono le in omega (arith, m)

pub has_more : (n p : ℕ) → eqb (n / p) 0 ≡ false → p ≤ n
has_more n p h = by (cases_order p n)
  where
    by : (p ≡ n) ⊎ ((p < n) ⊎ (n < p)) → p ≤ n
    by (inl e) = omega (arith, e)
    by (inr (inl lt)) = omega arith
    by (inr (inr lt)) = absurd (false≢true (sym h ∙ ap (λ (q : ℕ). eqb q 0) (div-eq_of_lt lt)))

-- a bit and a carry
pub half_bits : (x c : Bool) → bit (differ x c) + 2 * bit (x && c) ≡ bit x + bit c
half_bits true true = refl
half_bits true false = refl
half_bits false true = refl
half_bits false false = refl

-- one more place
pub half_place : (n m h h' s c c' x u : ℕ) → n + c * h ≡ m + u → s + 2 * c' ≡ x + c → h' ≡ 2 * h → n + s * h + c' * h' ≡ m + x * h + u
half_place n m h h' s c c' x u e g d =
    let t : (s + 2 * c') * h ≡ (x + c) * h = ap (λ (t : ℕ). t * h) g in
    let v : c' * h' ≡ c' * (2 * h) = ap (λ (t : ℕ). c' * t) d in
    omega (arith, t, v)

-- no carry where there is room
pub no_carry : (b : Bool) (n m h : ℕ) → n + bit b * h ≡ m → m < h → n ≡ m
no_carry true n m h e lt = absurd (omega arith)
no_carry false n m h e lt = omega arith

-- a sign of zero
pub signed-zero : (bs : List Bool) (b : Bool) → b ≡ false → signed (bs ++ b ∷ []) ≡ pos (number bs)
signed-zero bs b e =
    let n : number (bs ++ b ∷ []) ≡ number bs = number-push bs b ∙ ap (λ (c : Bool). number bs + bit c * 2 ^ length bs) e ∙ omega arith in
    let t : taken (bs ++ b ∷ []) ≡ 0 = taken-push bs b ∙ ap (λ (c : Bool). bit c * (2 * 2 ^ length bs)) e ∙ omega arith in
    signed-is (bs ++ b ∷ []) ∙ zero-taken (number (bs ++ b ∷ [])) (taken (bs ++ b ∷ [])) (number bs) n t
  where
    zero-taken : (m k n : ℕ) → m ≡ n → k ≡ 0 → (pos m -ℤ pos k) ≡ pos n
    zero-taken m k n e f = omega (arith, ints)

pub number-zero : (bs : List Bool) (b : Bool) → b ≡ false → number (bs ++ b ∷ []) ≡ number bs
number-zero bs b e = number-push bs b ∙ ap (λ (c : Bool). number bs + bit c * 2 ^ length bs) e ∙ omega arith
