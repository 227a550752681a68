-- What a constant gives. Source: Specifying Systems, sections 16.1.10 and 16.1.11, for numbers and strings; the
-- Apalache manual, for numbers outside of a width.
use Rattle.tla_values.specs.Order.{Layer}
use Rattle.tla_values.specs.declared.value.Value.{Value}
use Rattle.tla_values.specs.declared.value.Value.TheOpen as layer
use Rattle.tla_values.specs.declared.value.Value.TheVariants as value
use Rattle.tla_meaning.specs.declared.outcome.Outcome.{Outcome}
use Rattle.tla_meaning.specs.declared.outcome.Outcome.TheVariants.{Val, Wrong}
use Rattle.tla_meaning.specs.declared.place.Place.{Place}
use Rattle.tla_meaning.specs.Numbers.{Width, number}
use Rattle.tla_meaning.specs.Operators.{yes_no}

abbrev pub constant_outcome : Width → Place → Layer Value → Outcome
constant_outcome w p (layer.Bool b) = yes_no b
constant_outcome w p (layer.Int i) = number w p i
constant_outcome w p (layer.Text x) = Val (value.Text x)
constant_outcome w p l = Wrong p
