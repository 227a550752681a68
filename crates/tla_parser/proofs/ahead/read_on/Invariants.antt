use Rattle.std.proofs.Common.{◌≡◌, drop}
use Rattle.tla_parser.specs.inner.Recognition.{advances, stood}
use Rattle.tla_parser.proofs.ahead.read_on.Given as goal

abbrev pub invariant-loop-token : goal.invariant-loop-token
invariant-loop-token l = advances (stood l.next l.recognizer) (drop l.token-index l.tokens) ≡ advances (stood l.fn.mode l.fn.recognizer) l.tokens
