-- The quotient towards minus infinity and its rest make up the number.
use Rattle.std.proofs.Common.{◌≡◌, ℕ, zero, suc, ◌+◌, ◌-◌, ◌*◌, ◌/◌, ◌%◌, ◌<◌, arith, refl}
use Rattle.std.specs.Prelude.{ℤ, pos, negsuc, ◌+ℤ◌, ◌*ℤ◌, ◌<ℤ◌}
use Rattle.std.proofs.lemmas.Int.{ints}
use Rattle.std.proofs.Math.Nat.{div-add-mod, mod-lt}
use lib.IntN.{pos-*ℤ-pos, pos-*ℤ-negsuc}
use Rattle.word_blaster.specs.Quotient.{IsDivision, floor_quotient, floor_remainder}

whole_plus : (a b q r : ℕ) → b * q + r ≡ a → pos a ≡ pos b *ℤ pos q +ℤ pos r
whole_plus a b q r e = let p = pos-*ℤ-pos b q in omega (arith, ints, e, p)

whole_minus : (a b q r : ℕ) → b * q + r ≡ a → r < b → negsuc a ≡ pos b *ℤ negsuc q +ℤ pos (b - 1 - r)
whole_minus a b q r e lt = rw (pos-*ℤ-negsuc b q) (let m : b * suc q ≡ b * q + b = omega arith in omega (arith, ints, e, m))

rest_below : (a n : ℕ) → a % suc n < suc n
rest_below a n = mod-lt a (omega arith)

pub floor_division : (x : ℤ) (n : ℕ) → IsDivision x (pos (suc n)) (floor_quotient x (suc n)) (floor_remainder x (suc n))
floor_division (pos a) n =
    let lt = rest_below a n in
    record {
      whole = whole_plus a (suc n) (a / suc n) (a % suc n) (div-add-mod a (suc n));
      least = omega (arith, ints);
      below = omega (arith, ints, lt);
    }
floor_division (negsuc a) n =
    let lt = rest_below a n in
    record {
      whole = whole_minus a (suc n) (a / suc n) (a % suc n) (div-add-mod a (suc n)) lt;
      least = omega (arith, ints);
      below = omega (arith, ints, lt);
    }

-- a number above 0
pub positive_suc : (y : ℤ) → pos 0 <ℤ y → (n : ℕ) × (y ≡ pos (suc n))
positive_suc (pos zero) h = absurd (omega (arith, ints, h))
positive_suc (pos (suc n)) h = (n, refl)
positive_suc (negsuc n) h = absurd (omega (arith, ints, h))
