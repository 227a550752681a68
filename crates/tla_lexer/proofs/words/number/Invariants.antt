use Rattle.std.proofs.Common.{◌≡◌, ◌<◌, ◌^◌, take}
use Rattle.tla_lexer.specs.Pieces.{number_of}
use Rattle.tla_lexer.proofs.words.number.Given as goal

abbrev pub invariant-loop-digit : goal.invariant-loop-digit
invariant-loop-digit l = record { so_far : l.value ≡ number_of (take l.digit-index l.digits); fits : l.value < 2 ^ 127 }
