use Rattle.std.proofs.Common.{◌≡◌, drop}
use Rattle.snowcat_rows.specs.Readings.{find}
use Rattle.snowcat_rows.specs.inner.Readers.{known_of}
use Rattle.snowcat_rows.proofs.building.find.Given as goal

abbrev pub invariant-loop-alias : goal.invariant-loop-alias
invariant-loop-alias l = find (known_of l.known) l.name ≡ find (known_of (drop l.alias-index l.known)) l.name
