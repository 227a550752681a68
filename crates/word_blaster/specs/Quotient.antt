-- Quotients towards minus infinity and their rests, as \div and % of the module Integers: for b
-- above 0, a = b * (a \div b) + (a % b) with a % b from 0 to b - 1 (Specifying Systems,
-- section 18.4).
use Rattle.std.specs.Prelude.{◌≡◌, ℕ, suc, Bool, List, ℤ, pos, ◌+ℤ◌, ◌*ℤ◌, ◌≤ℤ◌, ◌<ℤ◌}
pub use Rattle.tla_values.specs.Integers.{floor_quotient, floor_remainder}
use Rattle.sat_formula.specs.declared.lit.Lit.{Lit}
use Rattle.sat_formula.specs.declared.cnf.Cnf.{Cnf}
use Rattle.sat_formula.specs.Formula.{Satisfies}
use Rattle.word_blaster.specs.Word.{word_value}

-- x is y times q and r, which is from 0 to y - 1
pub record IsDivision (x y q r : ℤ) : Type 0 where
  pub whole : x ≡ y *ℤ q +ℤ r
  pub least : pos 0 ≤ℤ r
  pub below : r <ℤ y

-- so it is under each satisfying assignment at which y is above 0
abbrev pub IsDividedWhere : Cnf → List Lit → List Lit → List Lit → List Lit → Type 0
IsDividedWhere f x y q r = (a : List Bool) → Satisfies a f → pos 0 <ℤ word_value y a → IsDivision (word_value x a) (word_value y a) (word_value q a) (word_value r a)

-- under each satisfying assignment at which y is above 0, q is the quotient of x by y
abbrev pub IsFloorQuotient : Cnf → List Lit → List Lit → List Lit → Type 0
IsFloorQuotient f x y q = (a : List Bool) → Satisfies a f → (n : ℕ) → word_value y a ≡ pos (suc n) → word_value q a ≡ floor_quotient (word_value x a) (suc n)

-- under each satisfying assignment at which y is above 0, r is what is left of x by y
abbrev pub IsFloorRemainder : Cnf → List Lit → List Lit → List Lit → Type 0
IsFloorRemainder f x y r = (a : List Bool) → Satisfies a f → (n : ℕ) → word_value y a ≡ pos (suc n) → word_value r a ≡ floor_remainder (word_value x a) (suc n)
