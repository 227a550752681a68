use Rattle.std.proofs.Common.{◌≡◌, drop}
use Rattle.tla_parser.specs.inner.Repeats.{walk_of, walked}
use Rattle.tla_parser.proofs.fields.Fields.walk.Given as goal

abbrev pub invariant-loop-i : goal.invariant-loop-i
invariant-loop-i l = walked (drop l.i l.codes) (walk_of l.self) ≡ walked (drop l.from l.codes) (walk_of l.fn.self)
