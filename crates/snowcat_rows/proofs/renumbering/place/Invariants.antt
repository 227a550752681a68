use Rattle.std.proofs.Common.{◌≡◌, ◌+◌, drop}
use Rattle.snowcat_rows.specs.Numbered.{place}
use Rattle.snowcat_rows.proofs.renumbering.place.Given as goal

abbrev pub invariant-loop-i : goal.invariant-loop-i
invariant-loop-i l = place l.v l.known ≡ l.i + place l.v (drop l.i l.known)
