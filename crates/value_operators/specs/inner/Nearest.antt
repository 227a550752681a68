-- A number moved into a width.
use Rattle.std.specs.Prelude.{ℕ, IsTrue, ℤ, ◌≤ℤ◌}
use Rattle.tla_values.specs.Integers.{fits_width}

-- each number that fits is on the same side of both
pub record IsNearest (width : ℕ) (n m : ℤ) : Type 0 where
  pub above : (k : ℤ) → IsTrue (fits_width width k) → n ≤ℤ k → m ≤ℤ k
  pub below : (k : ℤ) → IsTrue (fits_width width k) → k ≤ℤ n → k ≤ℤ m
