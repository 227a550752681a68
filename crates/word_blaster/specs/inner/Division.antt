-- Long division by a number above 0 (Knuth, The Art of Computer Programming, volume 2, section
-- 4.3.1), one bit a step.
use Rattle.std.specs.Prelude.{◌≡◌, ◌+◌, ◌*◌, ◌<◌, Bool, false, List}
use Rattle.word_blaster.specs.Word.{bit, number, sign, taken}

-- a bit is put below the rest, and the divisor ys is taken off once or not at all
pub record IsDivideStep (b : Bool) (ys rest : List Bool) (q : Bool) (left : List Bool) : Type 0 where
  pub same : sign ys ≡ false → number rest < number ys → bit b + 2 * number rest ≡ bit q * number ys + number left
  pub smaller : sign ys ≡ false → number rest < number ys → number left < number ys

-- what is left of -1 or 0
pub record IsFirstRest (b : Bool) (ys left : List Bool) : Type 0 where
  pub same : sign ys ≡ false → 0 < number ys → number left + bit b ≡ bit b * number ys
  pub smaller : sign ys ≡ false → 0 < number ys → number left < number ys

-- x is the quotient times y, and the rest
pub record IsDivided (ys xs quotient left : List Bool) : Type 0 where
  pub same : sign ys ≡ false → 0 < number ys → number xs + taken quotient * number ys ≡ number quotient * number ys + number left + taken xs
  pub smaller : sign ys ≡ false → 0 < number ys → number left < number ys
