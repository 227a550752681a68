use Rattle.std.proofs.Common.{◌-◌}
use Rattle.snowcat_types.specs.inner.Awaited.{HasFrom}
use Rattle.snowcat_types.proofs.watching.numbers.Given as goal

abbrev pub invariant-loop-i : goal.invariant-loop-i
invariant-loop-i l = HasFrom (l.count - l.i) l.count l.all.items
