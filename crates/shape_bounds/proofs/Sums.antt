-- Sums, products and powers of numbers of which the greatest that is kept stands for every greater one.
use Rattle.std.proofs.Common.{◌≡◌, ◌≢◌, ℕ, zero, suc, ◌+◌, ◌*◌, ◌^◌, ◌≤◌, ◌<◌, min, max, Bool, true, false, nat_lt, refl, sym, ◌∙◌, ap, arith}
use Rattle.std.proofs.lemmas.Bool.{ltb-true, ltb-false}
use Rattle.std.proofs.Math.Nat.{le-mul_of_pos_right, one-le-pow, mul_comm, pow-suc, pow-le-pow_left, zero-mul}
use Rattle.std.proofs.Math.Pow.{pow_mono}
use native.Mathlib.Numerals.{unary_clauses}
use Rattle.shape_bounds.specs.Kept.{greatest_kept, kept}

cut_sum : (l a b : ℕ) → min (a + b) l ≡ min (min a l + min b l) l
cut_sum l a b = omega arith

cut_great : (l a b : ℕ) → l < a → min (a * b) l ≡ min (l * b) l
cut_great l a zero h =
    let i : a * 0 ≡ 0 = omega arith in
    let j : l * 0 ≡ 0 = omega arith in
    ap (λ n. min n l) (i ∙ sym j)
cut_great l a (suc b) h =
    let m = le-mul_of_pos_right {m = suc b} a (omega arith) in
    let n = le-mul_of_pos_right {m = suc b} l (omega arith) in
    omega (arith, h, m, n)

cut_left_at : (l a b : ℕ) (c : Bool) → nat_lt l a ≡ c → min (a * b) l ≡ min (min a l * b) l
cut_left_at l a b true e =
    let h : l < a = ltb-true l a e in
    let k : l ≡ min a l = omega (arith, h) in
    cut_great l a b h ∙ ap (λ n. min (n * b) l) k
cut_left_at l a b false e =
    let h : a ≤ l = ltb-false l a e in
    let k : a ≡ min a l = omega (arith, h) in
    ap (λ n. min (n * b) l) k

cut_left : (l a b : ℕ) → min (a * b) l ≡ min (min a l * b) l
cut_left l a b = cut_left_at l a b (nat_lt l a) refl

cut_product : (l a b : ℕ) → min (a * b) l ≡ min (min a l * min b l) l
cut_product l a b =
    cut_left l a b
    ∙ ap (λ n. min n l) (mul_comm (min a l) b)
    ∙ cut_left l b (min a l)
    ∙ ap (λ n. min n l) (mul_comm (min b l) (min a l))

pub kept_sum : (a b : ℕ) → kept (a + b) ≡ kept (kept a + kept b)
kept_sum a b = cut_sum greatest_kept a b

pub kept_product : (a b : ℕ) → kept (a * b) ≡ kept (kept a * kept b)
kept_product a b = cut_product greatest_kept a b

pub kept_twice : (a : ℕ) → kept (kept a) ≡ kept a
kept_twice a = omega arith

pub kept_max : (a b : ℕ) → kept (max a b) ≡ max (kept a) (kept b)
kept_max a b = omega arith

pub kept_more : (b n : ℕ) → kept (kept (b ^ n) * b) ≡ kept (b ^ (n + 1))
kept_more b n =
    kept_product (kept (b ^ n)) b
    ∙ ap (λ m. kept (m * kept b)) (kept_twice (b ^ n))
    ∙ sym (kept_product (b ^ n) b)
    ∙ ap kept (sym (pow-suc b n))
    ∙ (let e : suc n ≡ n + 1 = omega arith in ap (λ m. kept (b ^ m)) e)

one_power : (n : ℕ) → 1 ^ n ≡ 1
one_power zero = refl
one_power (suc n) = let h = one_power n in pow-suc 1 n ∙ ap (λ m. m * 1) h

pub small_power : (b n : ℕ) → b ≤ 1 → n ≢ 0 → b ≡ kept (b ^ n)
small_power b zero h p = absurd (p refl)
small_power zero (suc n) h p = sym (ap kept (pow-suc 0 n) ∙ ap kept (mul_comm (0 ^ n) 0) ∙ ap kept (zero-mul (0 ^ n)))
small_power (suc zero) (suc n) h p = sym (ap kept (one_power (suc n)))
small_power (suc (suc b)) (suc n) h p = absurd (omega (arith, h))

great : (b n : ℕ) → 2 ≤ b → 64 ≤ n → 18446744073709551616 ≤ b ^ n
great b n h l = let i = pow-le-pow_left {n = 2} {m = b} h n in let j = pow_mono {i = 64} {j = n} l in omega (arith, i, j)

pub great_power : (b n : ℕ) → 2 ≤ b → 64 ≤ n → greatest_kept ≡ kept (b ^ n)
great_power b n h l = let g = great b n h l in omega (arith, g)

-- ---- a power of numbers that are kept

nat_absurd : greatest_kept ≡ 0 → ⊥
nat_absurd e = omega (arith, e)

not_zero : (n : ℕ) → greatest_kept < n → n ≡ 0 → ⊥
not_zero n h e = omega (arith, h, e)

less_kept : (n : ℕ) → n ≤ greatest_kept → kept n ≡ n
less_kept n h = omega (arith, h)

more_kept : (n : ℕ) → greatest_kept < n → kept n ≡ greatest_kept
more_kept n h = omega (arith, h)

power_many : (p n : ℕ) → greatest_kept < n → kept (p ^ greatest_kept) ≡ kept (p ^ n)
power_many zero n h = sym (small_power zero greatest_kept (omega arith) (λ e. nat_absurd e)) ∙ small_power zero n (omega arith) (λ e. not_zero n h e)
power_many (suc zero) n h = sym (small_power 1 greatest_kept (omega arith) (λ e. nat_absurd e)) ∙ small_power 1 n (omega arith) (λ e. not_zero n h e)
power_many (suc (suc p)) n h =
    sym (great_power (suc (suc p)) greatest_kept (omega arith) (omega arith)) ∙ great_power (suc (suc p)) n (omega arith) (omega (arith, h))

exponent_at : (p n : ℕ) (b : Bool) → nat_lt greatest_kept n ≡ b → kept (p ^ kept n) ≡ kept (p ^ n)
exponent_at p n true e = let h = ltb-true greatest_kept n e in ap (λ m. kept (p ^ m)) (more_kept n h) ∙ power_many p n h
exponent_at p n false e = let h = ltb-false greatest_kept n e in ap (λ m. kept (p ^ m)) (less_kept n h)

base_many : (p n : ℕ) → greatest_kept < p → kept (greatest_kept ^ n) ≡ kept (p ^ n)
base_many p zero h = simp unary_clauses refl
base_many p (suc n) h =
    ap kept (pow-suc greatest_kept n) ∙ at_least (greatest_kept ^ n) greatest_kept (one-le-pow n greatest_kept (omega arith)) (omega arith)
    ∙ sym (ap kept (pow-suc p n) ∙ at_least (p ^ n) p (one-le-pow n p (omega (arith, h))) (omega (arith, h)))
  where
    at_least : (m q : ℕ) → 1 ≤ m → greatest_kept ≤ q → kept (m * q) ≡ greatest_kept
    at_least zero q l k = absurd (omega (arith, l))
    at_least (suc m) q l k = let i : q ≤ q * suc m = le-mul_of_pos_right {m = suc m} q (omega arith) in let j = mul_comm q (suc m) in omega (arith, i, j, k)

base_at : (p n : ℕ) (b : Bool) → nat_lt greatest_kept p ≡ b → kept (kept p ^ n) ≡ kept (p ^ n)
base_at p n true e = let h = ltb-true greatest_kept p e in ap (λ m. kept (m ^ n)) (more_kept p h) ∙ base_many p n h
base_at p n false e = let h = ltb-false greatest_kept p e in ap (λ m. kept (m ^ n)) (less_kept p h)

pub kept_exponent : (p n : ℕ) → kept (p ^ kept n) ≡ kept (p ^ n)
kept_exponent p n = exponent_at p n (nat_lt greatest_kept n) refl

pub kept_power : (p n : ℕ) → kept (kept p ^ kept n) ≡ kept (p ^ n)
kept_power p n = kept_exponent (kept p) n ∙ base_at p n (nat_lt greatest_kept p) refl
