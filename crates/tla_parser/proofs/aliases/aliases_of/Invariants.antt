use Rattle.std.proofs.Common.{◌≡◌, ◌++◌, drop}
use Rattle.tla_parser.specs.Aliases.{aliases_of}
use Rattle.tla_parser.proofs.aliases.aliases_of.Given as goal

abbrev pub invariant-loop-token : goal.invariant-loop-token
invariant-loop-token l = l.found ++ aliases_of (drop l.token-index l.tokens) ≡ aliases_of l.tokens
