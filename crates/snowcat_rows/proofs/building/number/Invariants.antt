use Rattle.std.proofs.Common.{◌≡◌, ◌+◌, drop}
use Rattle.snowcat_rows.specs.Readings.{number}
use Rattle.snowcat_rows.proofs.building.number.Given as goal

abbrev pub invariant-loop-i : goal.invariant-loop-i
invariant-loop-i l = number l.v l.seen ≡ l.i + number l.v (drop l.i l.seen)
