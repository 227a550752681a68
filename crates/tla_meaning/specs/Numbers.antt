-- Whole numbers under a width.
use Rattle.std.specs.Prelude.{ℕ, zero, suc, ◌+◌, Bool, true, if◌then◌else◌, List, [], ◌∷◌, Option, Some, None, ℤ, pos, negsuc, ◌+ℤ◌, ◌-ℤ◌, ◌*ℤ◌, nat_abs, int_le}
use Rattle.tla_values.specs.Integers.{fits_width, floor_quotient, floor_remainder}
use Rattle.tla_values.specs.declared.value.Value.{Value}
use Rattle.tla_values.specs.declared.value.Value.TheVariants as value
use Rattle.tla_meaning.specs.declared.place.Place.{Place}
use Rattle.tla_meaning.specs.declared.outcome.Outcome.{Outcome}
use Rattle.tla_meaning.specs.declared.outcome.Outcome.TheVariants.{Val, Wrong, Big}

-- a width, or none
abbrev pub Width : Type 0
Width = Option ℕ

-- every number without a width, and else those that fit it
abbrev pub in_width : Width → ℤ → Bool
in_width None n = true
in_width (Some w) n = fits_width w n

-- a number, or Big where it is outside the width
abbrev pub number : Width → Place → ℤ → Outcome
number w p n = if in_width w n then Val (value.Int n) else Big p

-- by a divisor of either sign: Wrong where it is at most 0
abbrev pub quotient : Width → Place → ℤ → ℤ → Outcome
quotient w p a (pos zero) = Wrong p
quotient w p a (pos (suc b)) = number w p (floor_quotient a (suc b))
quotient w p a (negsuc b) = Wrong p

abbrev pub remainder : Width → Place → ℤ → ℤ → Outcome
remainder w p a (pos zero) = Wrong p
remainder w p a (pos (suc b)) = number w p (floor_remainder a (suc b))
remainder w p a (negsuc b) = Wrong p

abbrev pub power_of : ℤ → ℕ → ℤ
power_of a zero = pos 1
power_of a (suc n) = a *ℤ power_of a n

abbrev pub power : Width → Place → ℤ → ℤ → Outcome
power w p a (pos n) = number w p (power_of a n)
power w p a (negsuc n) = Wrong p

-- n numbers from a on
abbrev pub from_on : ℤ → ℕ → List Value
from_on a zero = []
from_on a (suc n) = value.Int a ∷ from_on (a +ℤ pos 1) n

-- the numbers from a to b
abbrev pub range : ℤ → ℤ → List Value
range a b = from_on a (if int_le a b then nat_abs (b -ℤ a) + 1 else 0)
