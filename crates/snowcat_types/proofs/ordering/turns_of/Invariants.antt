use Rattle.std.proofs.Common.{map}
use Rattle.snowcat_types.specs.inner.Awaited.{AreTurns}
use Rattle.snowcat_types.proofs.ordering.turns_of.Given as goal

abbrev pub invariant-loop-i : goal.invariant-loop-i
invariant-loop-i l = AreTurns (map (λ w. w.now) l.waits) l.i l.all.items
