use Rattle.std.proofs.Common.{◌≡◌, drop}
use Rattle.tla_parser.specs.Fields.{distinct}
use Rattle.tla_parser.specs.inner.Repeats.{named_from}
use Rattle.tla_parser.proofs.fields.distinct.Given as goal

abbrev pub invariant-loop-i : goal.invariant-loop-i
invariant-loop-i l = distinct (named_from 0 l.parts) ≡ distinct (named_from l.i (drop l.i l.parts))
