use Rattle.std.proofs.Common.{◌≡◌, ◌++◌, take, drop}
use Rattle.snowcat_rows.specs.Readings.{first_word}
use Rattle.snowcat_rows.proofs.reading.first_word.Given as goal

abbrev pub invariant-loop-at : goal.invariant-loop-at
invariant-loop-at l = first_word l.bytes ≡ take l.at l.bytes ++ first_word (drop l.at l.bytes)
