use Rattle.std.proofs.Common.{◌≡◌, false, take}
use Rattle.tla_parser.specs.inner.Recognition.{advances, module_start, stood}
use Rattle.tla_parser.specs.inner.Standings.{standing_of}
use Rattle.tla_parser.proofs.ahead.stick.Given as goal

abbrev pub invariant-loop-i : goal.invariant-loop-i
invariant-loop-i l =
    (stood l.mode l.recognizer ≡ advances module_start (take l.i l.tokens))
    × ((standing_of (stood l.mode l.recognizer)).stuck ≡ false)
