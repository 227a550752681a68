-- The earliest of some places.
use Rattle.std.specs.Prelude.{◌≡◌, false, List, [], Option, Some, None, Contains}
use Rattle.tla_meaning.specs.declared.place.Place.{Place}
use Rattle.tla_meaning.specs.Outcomes.{before as comes_before}

pub record IsEarliestAt (ps : List Place) (p : Place) : Type 0 where
  pub there : Contains ps p
  pub first : (q : Place) → Contains ps q → comes_before q p ≡ false

abbrev pub IsEarliest : List Place → Option Place → Type 0
IsEarliest ps None = ps ≡ []
IsEarliest ps (Some p) = IsEarliestAt ps p
