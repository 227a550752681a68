use Rattle.std.proofs.Common.{◌≡◌, reverse, take}
use Rattle.snowcat_rows.specs.inner.Readers.{closes_inner}
use Rattle.snowcat_rows.proofs.scanning.closes_inner.Given as goal

abbrev pub invariant-loop-at : goal.invariant-loop-at
invariant-loop-at l = closes_inner l.sign (reverse l.frames) ≡ closes_inner l.sign (reverse (take l.at l.frames))
