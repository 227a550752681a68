-- Ends of intervals, moved into a width.
use Rattle.std.proofs.Common.{◌≡◌, ℕ, ◌-◌, ◌^◌, ◌≤◌, min, max, ℤ, pos, negsuc, ◌-ℤ◌, neg_ℤ, nat_abs, refl, ap, ap₂, ◌∙◌, sym, arith, false, true≢false}
use Rattle.std.proofs.lemmas.Int.{ints, clamps}
use Rattle.std.proofs.Math.Pow.{pow_mono}
use Rattle.std.specs.Int.{saturate_signed, int_min, int_max}
use mir.Syntax.{w128}
use Rattle.kernel_shapes.specs.Shape.{Shape, moved, Num, hull_of, interval, join}
use Rattle.kernel_shapes.specs.Rows.{quotient_shape}
use Rattle.shape_bounds.specs.Kept.{is_interval}

pub moved_min : (w : ℕ) (a b : ℤ) → moved w (int_min a b) ≡ int_min (moved w a) (moved w b)
moved_min w a b = omega (arith, ints, clamps)

pub moved_max : (w : ℕ) (a b : ℤ) → moved w (int_max a b) ≡ int_max (moved w a) (moved w b)
moved_max w a b = omega (arith, ints, clamps)

module _ (w : ℕ) (le : w ≤ 64) where
  far : 2 ^ (w - 1) ≤ 2 ^ 127 - 1
  far = let k : 2 ^ (w - 1) ≤ 2 ^ 126 = pow_mono {i = w - 1} {j = 126} (omega arith) in omega (arith, k)

  some : 1 ≤ 2 ^ (w - 1)
  some = pow_mono {i = 0} {j = w - 1} (omega arith)

  -- the number of 128 bits that is nearest moves to the same end
  pub moved_saturated : (z : ℤ) → moved w (saturate_signed w128 z) ≡ moved w z
  moved_saturated (pos n) = let k = far in let l = some in omega (arith, ints, clamps, k, l)
  moved_saturated (negsuc n) = let k = far in let l = some in omega (arith, ints, clamps, k, l)

  least : (n : ℕ) → moved w (pos (min n 170141183460469231731687303715884105727)) ≡ moved w (pos n)
  least n = let k = far in let l = some in omega (arith, ints, clamps, k, l)

  most : (n : ℕ) → moved w (pos 0 -ℤ pos (min n 170141183460469231731687303715884105727)) ≡ moved w (neg_ℤ (pos n))
  most n = let k = far in let l = some in omega (arith, ints, clamps, k, l)

  -- as far below 0 as above it
  pub quotient_of : (a b low high : ℤ) (x r : Shape) → x ≡ Num a b →
      high ≡ int_max (pos (min (nat_abs a) 170141183460469231731687303715884105727)) (pos (min (nat_abs b) 170141183460469231731687303715884105727)) →
      low ≡ pos 0 -ℤ high → r ≡ interval w low high → r ≡ quotient_shape w x
  quotient_of a b low high x r e h l is =
      let both : high ≡ pos (min (max (nat_abs a) (nat_abs b)) 170141183460469231731687303715884105727) = h ∙ omega (arith, ints, clamps) in
      is
      ∙ ap₂ Num (ap (moved w) (l ∙ ap (λ z. pos 0 -ℤ z) both) ∙ most (max (nat_abs a) (nat_abs b)))
      (ap (moved w) both ∙ least (max (nat_abs a) (nat_abs b)))
      ∙ sym (ap (quotient_shape w) e)

-- the hull of ends that are moved already
pub hull_moved : (w : ℕ) (a b c d e f : ℤ) →
    e ≡ int_min (int_min (moved w a) (moved w b)) (int_min (moved w c) (moved w d)) →
    f ≡ int_max (int_max (moved w a) (moved w b)) (int_max (moved w c) (moved w d)) → Num e f ≡ hull_of w a b c d
hull_moved w a b c d e f p q =
    ap₂ Num (p ∙ sym (moved_min w (int_min a b) (int_min c d) ∙ ap₂ int_min (moved_min w a b) (moved_min w c d)))
    (q ∙ sym (moved_max w (int_max a b) (int_max c d) ∙ ap₂ int_max (moved_max w a b) (moved_max w c d)))

-- an interval and a shape that is none
pub join_other : (a b : ℤ) (c : Shape) → is_interval c ≡ false → join (Num a b) c ≡ Num a b
join_other a b (Num x y) e = absurd (true≢false e)
join_other a b c e = refl

pub join_both : (a b c d : ℤ) (x : Shape) → x ≡ Num c d → join (Num a b) x ≡ Num (int_min a c) (int_max b d)
join_both a b c d x e = ap (join (Num a b)) e
