-- Intervals: a number that lies in the operands' intervals lies in the result's.
use Rattle.std.proofs.Common.{◌≡◌, ℕ, suc, ◌*◌, ◌-◌, ◌^◌, ◌≤◌, max, nat_abs, nat_lt, Some, true, ℤ, pos, negsuc, ◌+ℤ◌, ◌-ℤ◌, ◌*ℤ◌, neg_ℤ, ◌≤ℤ◌, arith}
use Rattle.std.specs.Int.{int_max, int_min}
use Rattle.std.proofs.lemmas.Int.{ints, clamps}
use Rattle.std.proofs.Math.IntN.{pos-*ℤ-pos, negsuc-*ℤ-pos, *ℤ-negsuc, *ℤ_comm}
use Rattle.std.proofs.Math.Nat.{mul-le-mul_right, mod-lt, div-le_self}
use Rattle.tla_meaning.specs.Numbers.{in_width}
use Rattle.tla_values.specs.Integers.{floor_quotient, floor_remainder}
use Rattle.kernel_shapes.specs.Shape.{lowest, highest, moved}

-- the hull of four numbers, and a number in it
pub record Between (a b n : ℤ) : Type 0 where
  pub low : a ≤ℤ n
  pub high : n ≤ℤ b

abbrev pub least_of : ℤ → ℤ → ℤ → ℤ → ℤ
least_of a b c d = int_min (int_min a b) (int_min c d)

abbrev pub greatest_of : ℤ → ℤ → ℤ → ℤ → ℤ
greatest_of a b c d = int_max (int_max a b) (int_max c d)

pub sum_between : (a b c d m n : ℤ) → Between a b m → Between c d n →
    Between (least_of (a +ℤ c) (a +ℤ d) (b +ℤ c) (b +ℤ d)) (greatest_of (a +ℤ c) (a +ℤ d) (b +ℤ c) (b +ℤ d)) (m +ℤ n)
sum_between a b c d m n h k = let p = h.low in let q = h.high in let r = k.low in let s = k.high in
    record { low = omega (arith, ints, clamps, p, r); high = omega (arith, ints, clamps, q, s) }

mul_up : (a m : ℤ) (c : ℕ) → a ≤ℤ m → (a *ℤ pos c) ≤ℤ (m *ℤ pos c)
mul_up (pos a) (pos m) c h =
    let p = pos-*ℤ-pos a c in
    let q = pos-*ℤ-pos m c in
    let l : a * c ≤ m * c = mul-le-mul_right c (omega (arith, ints)) in
    omega (arith, ints, p, q, l)
mul_up (pos a) (negsuc m) c h = omega (arith, ints)
mul_up (negsuc a) (pos m) c h =
    let p = negsuc-*ℤ-pos a c in
    let q = pos-*ℤ-pos m c in
    omega (arith, ints, p, q)
mul_up (negsuc a) (negsuc m) c h =
    let p = negsuc-*ℤ-pos a c in
    let q = negsuc-*ℤ-pos m c in
    let l : suc m * c ≤ suc a * c = mul-le-mul_right c (omega (arith, ints)) in
    omega (arith, ints, p, q, l)

mul_down : (a m : ℤ) (c : ℕ) → a ≤ℤ m → (m *ℤ negsuc c) ≤ℤ (a *ℤ negsuc c)
mul_down a m c h =
    let p = *ℤ-negsuc a c in
    let q = *ℤ-negsuc m c in
    let l = mul_up a m (suc c) h in
    omega (arith, ints, p, q, l)

-- a product lies between those of the ends
mul_right : (a b m c : ℤ) → a ≤ℤ m → m ≤ℤ b → Between (int_min (a *ℤ c) (b *ℤ c)) (int_max (a *ℤ c) (b *ℤ c)) (m *ℤ c)
mul_right a b m (pos c) h k =
    let p = mul_up a m c h in
    let q = mul_up m b c k in
    record { low = omega (arith, ints, clamps, p, q); high = omega (arith, ints, clamps, p, q) }
mul_right a b m (negsuc c) h k =
    let p = mul_down a m c h in
    let q = mul_down m b c k in
    record { low = omega (arith, ints, clamps, p, q); high = omega (arith, ints, clamps, p, q) }

mul_left : (a b m c : ℤ) → a ≤ℤ m → m ≤ℤ b → Between (int_min (c *ℤ a) (c *ℤ b)) (int_max (c *ℤ a) (c *ℤ b)) (c *ℤ m)
mul_left a b m c h k =
    let r = mul_right a b m c h k in
    let p = *ℤ_comm a c in
    let q = *ℤ_comm b c in
    let s = *ℤ_comm m c in
    let l = r.low in
    let g = r.high in
    record { low = omega (arith, ints, clamps, p, q, s, l); high = omega (arith, ints, clamps, p, q, s, g) }

pub product_between : (a b c d m n : ℤ) → Between a b m → Between c d n →
    Between (least_of (a *ℤ c) (a *ℤ d) (b *ℤ c) (b *ℤ d)) (greatest_of (a *ℤ c) (a *ℤ d) (b *ℤ c) (b *ℤ d)) (m *ℤ n)
product_between a b c d m n h k =
    let r = mul_right a b m n h.low h.high in
    let s = mul_left c d n a k.low k.high in
    let t = mul_left c d n b k.low k.high in
    let r0 = r.low in let r1 = r.high in let s0 = s.low in let s1 = s.high in let t0 = t.low in let t1 = t.high in
    record { low = omega (arith, ints, clamps, r0, s0, t0); high = omega (arith, ints, clamps, r1, s1, t1) }

pub difference_between : (a b c d m n : ℤ) → Between a b m → Between c d n →
    Between (least_of (a -ℤ c) (a -ℤ d) (b -ℤ c) (b -ℤ d)) (greatest_of (a -ℤ c) (a -ℤ d) (b -ℤ c) (b -ℤ d)) (m -ℤ n)
difference_between a b c d m n h k = let p = h.low in let q = h.high in let r = k.low in let s = k.high in
    record { low = omega (arith, ints, clamps, p, s); high = omega (arith, ints, clamps, q, r) }

pub negation_between : (a b m : ℤ) → Between a b m → Between (int_min (neg_ℤ a) (neg_ℤ b)) (int_max (neg_ℤ a) (neg_ℤ b)) (neg_ℤ m)
negation_between a b m h = let p = h.low in let q = h.high in
    record { low = omega (arith, ints, clamps, q); high = omega (arith, ints, clamps, p) }

-- a number of the width stays in an interval whose ends are moved into the width
pub moved_between : (w : ℕ) (a b n : ℤ) → Between a b n → Between (lowest w) (highest w) n → Between (moved w a) (moved w b) n
moved_between w a b n h k = let p = h.low in let q = h.high in let r = k.low in let s = k.high in
    record { low = omega (arith, ints, clamps, p, r); high = omega (arith, ints, clamps, q, s) }

in_positive : (n k : ℕ) → nat_lt n k ≡ true → Between (neg_ℤ (pos k)) (pos k -ℤ pos 1) (pos n)
in_positive n k e = record { low = grind (arith, ints); high = grind (arith, ints) }

in_negative : (n k : ℕ) → nat_lt n k ≡ true → Between (neg_ℤ (pos k)) (pos k -ℤ pos 1) (negsuc n)
in_negative n k e = record { low = grind (arith, ints); high = grind (arith, ints) }

pub width_between : (w : ℕ) (n : ℤ) → in_width (Some w) n ≡ true → Between (lowest w) (highest w) n
width_between w (pos n) e = in_positive n (2 ^ (w - 1)) e
width_between w (negsuc n) e = in_negative n (2 ^ (w - 1)) e

size_below : (a b n : ℤ) → Between a b n → nat_abs n ≤ max (nat_abs a) (nat_abs b)
size_below a b n h = let p = h.low in let q = h.high in grind (arith, ints, p, q)

abs_between : (m : ℕ) (n : ℤ) → nat_abs n ≤ m → Between (neg_ℤ (pos m)) (pos m) n
abs_between m (pos n) h = record { low = omega (arith, ints); high = omega (arith, ints) }
abs_between m (negsuc n) h = record { low = omega (arith, ints); high = omega (arith, ints) }

quotient_size : (n : ℤ) (b : ℕ) → nat_abs (floor_quotient n (suc b)) ≤ nat_abs n
quotient_size (pos n) b = let p = div-le_self n (suc b) in omega (arith, ints, p)
quotient_size (negsuc n) b = let p = div-le_self n (suc b) in omega (arith, ints, p)

pub quotient_between : (a b n : ℤ) (d : ℕ) → Between a b n →
    Between (neg_ℤ (pos (max (nat_abs a) (nat_abs b)))) (pos (max (nat_abs a) (nat_abs b))) (floor_quotient n (suc d))
quotient_between a b n d h =
    let p = size_below a b n h in
    let q = quotient_size n d in
    abs_between (max (nat_abs a) (nat_abs b)) (floor_quotient n (suc d)) (omega (arith, p, q))

pub remainder_between : (a b n : ℤ) (d : ℕ) → Between a b (pos (suc d)) → Between (pos 0) (int_max (pos 0) (b -ℤ pos 1)) (floor_remainder n (suc d))
remainder_between a b (pos n) d h =
    let p = mod-lt n {m = suc d} (omega arith) in
    let q = h.high in
    record { low = omega (arith, ints); high = omega (arith, ints, clamps, p, q) }
remainder_between a b (negsuc n) d h =
    let q = h.high in
    record { low = omega (arith, ints); high = omega (arith, ints, clamps, q) }
