use Rattle.std.proofs.Common.{◌≡◌, [], take, true}
use Rattle.snowcat_rows.specs.inner.Naming.{aliases_named}
use Rattle.snowcat_rows.specs.Readings.{Knows}
use Rattle.snowcat_rows.specs.inner.Readers.{known_of}
use Rattle.snowcat_rows.proofs.reading.known_aliases.Given as goal

abbrev pub invariant-loop-i : goal.invariant-loop-i
invariant-loop-i l = Knows [] (take l.i l.aliases) (known_of l.known.items) × (aliases_named l.known.items ≡ true)
