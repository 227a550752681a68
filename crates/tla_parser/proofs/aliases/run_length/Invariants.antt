use Rattle.std.proofs.Common.{◌≡◌, take, true}
use Rattle.std.specs.List.{list_all}
use Rattle.tla_parser.specs.inner.Notes.{passes}
use Rattle.tla_parser.proofs.aliases.run_length.Given as goal

abbrev pub invariant-loop-i : goal.invariant-loop-i
invariant-loop-i l = list_all (passes l.kind) (take l.i l.bytes) ≡ true
