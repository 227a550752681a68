use Rattle.std.proofs.Common.{◌≡◌, drop}
use Rattle.tla_meaning.specs.ReadingOrder.{from_name}
use Rattle.flat_modules.proofs.course.from_name.Given as goal

abbrev pub invariant-loop-i : goal.invariant-loop-i
invariant-loop-i l = from_name l.name l.names ≡ from_name l.name (drop l.i l.names)
