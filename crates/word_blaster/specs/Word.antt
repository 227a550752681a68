-- Lists of bits, lowest first, as numbers without a sign and in two's complement (Knuth, The Art of
-- Computer Programming, volume 2, section 4.1).
use Rattle.std.specs.Prelude.{◌≡◌, ℕ, ◌+◌, ◌-◌, ◌*◌, ◌^◌, ◌<◌, ◌≤◌, Bool, false, not, List, [], ◌∷◌, length, All, slice_index_or, nat_lt, if◌then◌else◌, ℤ, pos, negsuc, ◌-ℤ◌}
pub use Rattle.tla_values.specs.Integers.{fits_width}
pub use Rattle.sat_formula.specs.Lit.{values}
use Rattle.sat_formula.specs.declared.lit.Lit.{Lit}
use Rattle.sat_formula.specs.declared.cnf.Cnf.{Cnf}
use Rattle.sat_formula.specs.Lit.{lit_value, IsBelow}
use Rattle.sat_formula.specs.Formula.{HasValue, Satisfies}

abbrev pub bit : Bool → ℕ
bit b = if b then 1 else 0

-- the value of bits without a sign
unfoldable pub number : List Bool → ℕ
number [] = 0
number (b ∷ bs) = bit b + 2 * number bs

-- the last bit is the sign
abbrev pub sign : List Bool → Bool
sign bs = slice_index_or bs (length bs - 1) false

-- what the sign takes away
unfoldable pub taken : List Bool → ℕ
taken bs = bit (sign bs) * 2 ^ length bs

-- the value of bits in two's complement
unfoldable pub signed : List Bool → ℤ
signed bs = pos (number bs) -ℤ pos (taken bs)

-- each variable is one of the first n
unfoldable pub WordBelow : ℕ → List Lit → Type 0
WordBelow n w = All (IsBelow n) w

-- a word of so many literals over the first v variables
pub record IsWord (v n : ℕ) (w : List Lit) : Type 0 where
  pub below : WordBelow v w
  pub width : length w ≡ n

-- two words of one width over the first v variables
pub record AreWords (v : ℕ) (x y : List Lit) : Type 0 where
  pub left : WordBelow v x
  pub right : WordBelow v y
  pub same : length x ≡ length y

-- the number that a word stands for under an assignment
abbrev pub word_value : List Lit → List Bool → ℤ
word_value w a = signed (values w a)

-- n for n, and n for -(n + 1): the bits below the sign, turned where it is set
abbrev pub magnitude : ℤ → ℕ
magnitude (pos n) = n
magnitude (negsuc n) = n

-- The word has the width, and it stands for the number that `exact` says wherever that number fits.
-- The literal is true exactly where it does not.
pub record IsExact (f : Cnf) (n : ℕ) (word : List Lit) (out : Lit) (exact : List Bool → ℤ) : Type 0 where
  pub below : WordBelow f.vars word
  pub width : length word ≡ n
  pub outside : HasValue f out (λ a. not (fits_width n (exact a)))
  pub value : (a : List Bool) → Satisfies a f → lit_value out a ≡ false → signed (values word a) ≡ exact a

-- the number is from 0 on and has no more than k bits
abbrev pub is_below : ℕ → ℤ → Bool
is_below k (pos n) = nat_lt n (2 ^ k)
is_below k (negsuc n) = false

-- as many bits as numbers up to this one need, and fewer than a word of so many has
pub record AreFew (most width : ℕ) (bits : List Lit) : Type 0 where
  pub least : 0 < length bits → 2 ^ (length bits - 1) ≤ most
  pub short : length bits < width
