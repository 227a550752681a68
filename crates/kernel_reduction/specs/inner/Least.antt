-- The least of some places.
use Rattle.std.specs.Prelude.{List, Option, Contains}
use Rattle.tla_meaning.specs.declared.place.Place.{Place}
use Rattle.snowcat_types.specs.inner.Telling.{IsLeastOf}

abbrev pub IsLeast : List Place → Option Place → Type 0
IsLeast ps w = IsLeastOf (Contains ps) w
