-- Whole numbers in a row, as .. of the module Integers (Specifying Systems, section 18.4).
use Rattle.std.specs.Prelude.{ℕ, zero, suc, ◌+◌, Bool, ◌&&◌, List, [], ◌∷◌, ℤ, pos, ◌+ℤ◌, ◌-ℤ◌, nat_abs, int_le, if◌then◌else◌}
use Rattle.tla_values.specs.Order.{Layer}
use Rattle.tla_values.specs.declared.value.Value.{Value, out-Value}
use Rattle.tla_values.specs.declared.value.Value.TheVariants as value
use Rattle.tla_values.specs.declared.value.Value.TheOpen as layer
use Rattle.cell_arena.specs.declared.kinds.CellId.{CellId}
use Rattle.cell_arena.specs.declared.kinds.CellKind.{CellKind}
use Rattle.cell_merge.specs.Sorts.{OfSort, number}

-- n numbers from a on
abbrev pub from_on : ℤ → ℕ → List Value
from_on a zero = []
from_on a (suc n) = value.Int a ∷ from_on (a +ℤ pos 1) n

-- how many numbers there are from a to b
abbrev pub count_of : ℤ → ℤ → ℕ
count_of a b = if int_le a b then nat_abs (b -ℤ a) + 1 else 0

-- the numbers from a to b
abbrev pub range : ℤ → ℤ → List Value
range a b = from_on a (count_of a b)

abbrev pub int_here : Layer Value → ℤ
int_here (layer.Int n) = n
int_here l = pos 0

-- the number of a value that is one
unfoldable pub int_of : Value → ℤ
int_of v = int_here (out-Value v)

-- whether it lies from the one number to the other
abbrev pub lies : Value → Value → Value → Bool
lies x y v = int_le (int_of x) (int_of v) && int_le (int_of v) (int_of y)

-- two numbers
pub record AreNumbers (ks : List CellKind) (x y : CellId) : Type 0 where
  pub left : OfSort ks number x
  pub right : OfSort ks number y
