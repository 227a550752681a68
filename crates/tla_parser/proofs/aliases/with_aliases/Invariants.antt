use Rattle.std.proofs.Common.{◌≡◌, ◌++◌, drop}
use Rattle.tla_parser.specs.Aliases.{aliases_in}
use Rattle.tla_parser.proofs.aliases.with_aliases.Given as goal

abbrev pub invariant-loop-i : goal.invariant-loop-i
invariant-loop-i l = l.found ++ aliases_in (drop l.i l.bytes) ≡ l.fn.found ++ aliases_in l.bytes
