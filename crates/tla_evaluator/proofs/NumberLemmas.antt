-- Numbers outside a width, and powers.
use Rattle.std.proofs.Common.{◌≡◌, ℕ, zero, suc, ◌+◌, ◌-◌, ◌*◌, ◌^◌, ◌<◌, ◌≤◌, true, false, nat_lt, ℤ, pos, negsuc, ◌*ℤ◌, ◌+ℤ◌, ◌≤ℤ◌, nat_abs, Some, refl, ap, ◌∙◌, sym, subst, arith, FitsSigned, cond, min, Bool, add-one, ◌-ℤ◌, ◌<ℤ◌, int_le, if◌then◌else◌, ◌%◌, ◌/◌, to_z, of_z}
use Rattle.tla_evaluator.proofs.Words.{Big, Place, Val, in_width, number, power_of}
use mir.Syntax.{w128}
use Rattle.std.proofs.lemmas.Bool.{le-ltb, lt-ltb, ltb-false, ltb-true}
use Rattle.std.proofs.lemmas.Int.{ints, to_z-of_z, unsigned_abs-mul}
use Rattle.std.proofs.Math.Pow.{pow_mono}
use Rattle.std.proofs.Math.Nat.{one-le-pow}
use Rattle.std.specs.Int.RustNames.{unsigned_abs}
use Rattle.std.specs.Int.{saturate_signed}
use Rattle.tla_values.specs.declared.value.Value.TheVariants as value

-- the number of 128 bits that is nearest to z is in the same widths
module _ (w : ℕ) (le : w ≤ 64) where
  far : 2 ^ (w - 1) ≤ 2 ^ 127 - 1
  far = let k : 2 ^ (w - 1) ≤ 2 ^ 126 = pow_mono {i = w - 1} {j = 126} (omega arith) in omega (arith, k)

  least_same : (n : ℕ) → nat_lt (min n (2 ^ 127 - 1)) (2 ^ (w - 1)) ≡ nat_lt n (2 ^ (w - 1))
  least_same n = go (nat_lt n (2 ^ (w - 1))) refl
    where
      go : (b : Bool) → nat_lt n (2 ^ (w - 1)) ≡ b → nat_lt (min n (2 ^ 127 - 1)) (2 ^ (w - 1)) ≡ b
      go true e = let l = ltb-true n (2 ^ (w - 1)) e in let k = far in lt-ltb (min n (2 ^ 127 - 1)) (2 ^ (w - 1)) (omega (arith, l, k))
      go false e = let l = ltb-false n (2 ^ (w - 1)) e in let k = far in le-ltb (min n (2 ^ 127 - 1)) (2 ^ (w - 1)) (omega (arith, l, k))

  pub saturated : (z : ℤ) → in_width (Some w) (saturate_signed w128 z) ≡ in_width (Some w) z
  saturated (pos n) = least_same n
  saturated (negsuc n) = least_same n

  pub unsaturated : (z : ℤ) → in_width (Some w) z ≡ true → saturate_signed w128 z ≡ z
  unsaturated (pos n) e = let l = ltb-true n (2 ^ (w - 1)) e in let k = far in let m : min n (2 ^ 127 - 1) ≡ n = omega (arith, l, k) in ap pos m
  unsaturated (negsuc n) e = let l = ltb-true n (2 ^ (w - 1)) e in let k = far in let m : min n (2 ^ 127 - 1) ≡ n = omega (arith, l, k) in ap negsuc m

-- ---- powers

positive : (k : ℕ) → 1 ≤ 2 ^ k
positive k = one-le-pow k 2 (omega arith)

size_outside : (w : ℕ) (x : ℤ) → in_width (Some w) x ≡ false → 2 ^ (w - 1) ≤ unsigned_abs x
size_outside w (pos m) h = ltb-false m (2 ^ (w - 1)) h
size_outside w (negsuc m) h = let k = ltb-false m (2 ^ (w - 1)) h in omega (arith, k)

outside_size : (w : ℕ) (x : ℤ) → 2 ^ (w - 1) + 1 ≤ unsigned_abs x → in_width (Some w) x ≡ false
outside_size w (pos m) h = le-ltb m (2 ^ (w - 1)) (omega arith)
outside_size w (negsuc m) h = le-ltb m (2 ^ (w - 1)) (omega arith)

twice : (a b c : ℕ) → 2 ≤ a → 1 ≤ b → b ≤ c → b + 1 ≤ a * c
twice a b c h k l = grind arith

pub outside_more : (w : ℕ) (a x : ℤ) → 2 ≤ unsigned_abs a → in_width (Some w) x ≡ false → in_width (Some w) (a *ℤ x) ≡ false
outside_more w a x h o =
    outside_size w (a *ℤ x)
    (subst (λ n. 2 ^ (w - 1) + 1 ≤ n) (sym (unsigned_abs-mul a x)) (twice (unsigned_abs a) (2 ^ (w - 1)) (unsigned_abs x) h (positive (w - 1)) (size_outside w x o)))

outside_power : (w : ℕ) (a : ℤ) (k d : ℕ) → 2 ≤ unsigned_abs a → in_width (Some w) (power_of a k) ≡ false → in_width (Some w) (power_of a (d + k)) ≡ false
outside_power w a k zero h o = let e : k ≡ 0 + k = omega arith in subst (λ n. in_width (Some w) (power_of a n) ≡ false) e o
outside_power w a k (suc d) h o =
    let e : suc (d + k) ≡ suc d + k = omega arith in
    subst (λ n. in_width (Some w) (power_of a n) ≡ false) e (outside_more w a (power_of a (d + k)) h (outside_power w a k d h o))

pub power_big : (w : ℕ) (p : Place) (a b x : ℤ) (k n : ℕ) → b ≡ a → 2 ≤ unsigned_abs a → x ≡ power_of b k → k < n → in_width (Some w) (b *ℤ x) ≡ false →
    number (Some w) p (power_of a n) ≡ Big p
power_big w p a b x k n s h e lt o =
    let m : (n - suc k) + suc k ≡ n = omega arith in
    let there : in_width (Some w) (power_of a (suc k)) ≡ false =
    subst (λ y. in_width (Some w) (power_of y (suc k)) ≡ false) s (subst (λ y. in_width (Some w) (b *ℤ y) ≡ false) e o) in
    let far : in_width (Some w) (power_of a n) ≡ false =
    subst (λ j. in_width (Some w) (power_of a j) ≡ false) m (outside_power w a (suc k) (n - suc k) h there) in
    ap (λ b. cond b (Val (value.Int (power_of a n))) (Big p)) far

-- what is in a width fits 128 bits
held : (w m : ℕ) → w ≤ 64 → nat_lt m (2 ^ (w - 1)) ≡ true → m < 2 ^ 127
held w m le h = let k : 2 ^ (w - 1) ≤ 2 ^ 127 = pow_mono {i = w - 1} {j = 127} (omega arith) in let l = ltb-true m (2 ^ (w - 1)) h in omega (arith, k, l)

pub fits_there : (w : ℕ) (n : ℤ) → w ≤ 64 → in_width (Some w) n ≡ true → FitsSigned w128 n
fits_there w (pos m) le h = record { sfits = held w m le h }
fits_there w (negsuc m) le h = record { sfits = held w m le h }

pub power_more : (w : ℕ) (b x y : ℤ) (k : ℕ) → w ≤ 64 → x ≡ power_of b k → y ≡ b *ℤ x → in_width (Some w) (b *ℤ x) ≡ true →
    to_z w128 (of_z w128 y) ≡ power_of b (k + 1)
power_more w b x y k le e f h =
    to_z-of_z w128 y (subst (FitsSigned w128) (sym f) (fits_there w (b *ℤ x) le h)) ∙ f ∙ ap (λ z. b *ℤ z) e ∙ ap (power_of b) (sym (add-one k))

pub power_one : (n : ℕ) → power_of (pos 1) n ≡ pos 1
power_one zero = refl
power_one (suc n) = ap (λ x. pos 1 *ℤ x) (power_one n)

-- powers of -1
power_even : (q : ℕ) → power_of (negsuc 0) (q + q) ≡ pos 1
power_even zero = refl
power_even (suc q) =
    let e : suc q + suc q ≡ suc (suc (q + q)) = omega arith in
    ap (power_of (negsuc 0)) e ∙ ap (λ x. negsuc 0 *ℤ (negsuc 0 *ℤ x)) (power_even q)

pub minus_even : (a : ℤ) (n : ℕ) → a ≡ negsuc 0 → n % 2 ≡ 0 → pos 1 ≡ power_of a n
minus_even a n e h =
    let d : n / 2 + n / 2 ≡ n = omega arith in
    sym (ap (λ x. power_of x n) e ∙ ap (power_of (negsuc 0)) (sym d) ∙ power_even (n / 2))

pub minus_odd : (a : ℤ) (n : ℕ) → a ≡ negsuc 0 → (n % 2 ≡ 0 → ⊥) → negsuc 0 ≡ power_of a n
minus_odd a n e h =
    let d : suc (n / 2 + n / 2) ≡ n = omega arith in
    sym (ap (λ x. power_of x n) e ∙ ap (power_of (negsuc 0)) (sym d) ∙ ap (λ x. negsuc 0 *ℤ x) (power_even (n / 2)))

-- ---- how many numbers there are from a to b

abbrev pub size : ℤ → ℤ → ℕ
size a b = if int_le a b then nat_abs (b -ℤ a) + 1 else 0

pub in_size : (a b : ℤ) (k : ℕ) → (a +ℤ pos k) ≤ℤ b → k + 1 ≤ size a b
in_size a b k h = grind (arith, ints)

pub out_size : (a b : ℤ) (k : ℕ) → k ≤ size a b → b <ℤ (a +ℤ pos k) → k ≡ size a b
out_size a b k h l = grind (arith, ints)

pub in_more : (a b : ℤ) (k k' len : ℕ) → (a +ℤ pos len) ≤ℤ b → len ≡ k → k' ≡ k + 1 → k' ≤ size a b
in_more a b k k' len h el ek = let i = in_size a b len h in omega (arith, i)

pub left_less : (a b : ℤ) (k k' len : ℕ) → (a +ℤ pos len) ≤ℤ b → len ≡ k → k' ≡ k + 1 → size a b - k' < size a b - k
left_less a b k k' len h el ek = let i = in_size a b len h in omega (arith, i)
