use Rattle.std.proofs.Common.{◌≡◌, drop}
use Rattle.snowcat_rows.specs.TypeTexts.{has_letter}
use Rattle.snowcat_rows.proofs.pieces.has_letter.Given as goal

abbrev pub invariant-loop-byte : goal.invariant-loop-byte
invariant-loop-byte l = has_letter l.word ≡ has_letter (drop l.byte-index l.word)
