-- What a width may change: an outcome becomes Big, or the place of a fault another one.
use Rattle.std.specs.Prelude.{ℕ, Some}
use Rattle.tla_values.specs.declared.value.Value.{Value}
use Rattle.tla_meaning.specs.declared.place.Place.{Place}
use Rattle.tla_meaning.specs.declared.outcome.Outcome.{Outcome}
use Rattle.tla_meaning.specs.declared.outcome.Outcome.TheVariants.{Val, Wrong, Big}
use Rattle.tla_meaning.specs.Numbers.{Width}

-- an outcome under a width or none, and the one without a width, where nothing is Big
pub data Narrow : Width → Outcome → Outcome → Type 0 where
  SameValue : {w : Width} → (v : Value) → Narrow w (Val v) (Val v)
  BothWrong : {w : Width} → (p q : Place) → Narrow w (Wrong p) (Wrong q)
  TooBig : {w : ℕ} → (p : Place) (o : Outcome) → Narrow (Some w) (Big p) o
