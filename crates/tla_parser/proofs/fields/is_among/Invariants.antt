use Rattle.std.proofs.Common.{◌≡◌, drop}
use Rattle.std.specs.List.{list_any}
use Rattle.std.specs.Prelude.{bytes_eq}
use Rattle.tla_parser.specs.inner.Repeats.{named_from}
use Rattle.tla_parser.proofs.fields.is_among.Given as goal

abbrev pub invariant-loop-i : goal.invariant-loop-i
invariant-loop-i l = list_any (bytes_eq l.name) (named_from l.from (drop l.from l.parts)) ≡ list_any (bytes_eq l.name) (named_from l.i (drop l.i l.parts))
