-- Whole numbers in two's complement, and division towards minus infinity, as \div and % of the module Integers
-- (Specifying Systems, section 18.4).
use Rattle.std.specs.Prelude.{ℕ, ◌-◌, ◌/◌, ◌%◌, ◌^◌, Bool, nat_lt, ℤ, pos, negsuc}

-- from -2^(w-1) to 2^(w-1) - 1
abbrev pub fits_width : ℕ → ℤ → Bool
fits_width w (pos n) = nat_lt n (2 ^ (w - 1))
fits_width w (negsuc n) = nat_lt n (2 ^ (w - 1))

-- the quotient towards minus infinity by a divisor above 0
abbrev pub floor_quotient : ℤ → ℕ → ℤ
floor_quotient (pos a) b = pos (a / b)
floor_quotient (negsuc a) b = negsuc (a / b)

-- what is left, from 0 to b - 1
abbrev pub floor_remainder : ℤ → ℕ → ℤ
floor_remainder (pos a) b = pos (a % b)
floor_remainder (negsuc a) b = pos (b - 1 - a % b)
