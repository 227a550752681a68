use Rattle.std.proofs.Common.{◌≡◌, false, drop}
use Rattle.tla_parser.specs.inner.Sights.{constants_from, name_from}
use Rattle.tla_parser.proofs.sights.ends_in_constants.Given as goal

abbrev pub invariant-loop-token : goal.invariant-loop-token
invariant-loop-token l =
    (constants_from l.are_constants (drop l.token-index l.tokens) ≡ constants_from false l.tokens)
    × (name_from l.is_name (drop l.token-index l.tokens) ≡ name_from false l.tokens)
