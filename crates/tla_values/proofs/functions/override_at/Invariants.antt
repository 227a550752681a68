use Rattle.std.proofs.Common.{◌≡◌, take}
use Rattle.tla_values.specs.Sets.{override_at}
use Rattle.tla_values.proofs.functions.override_at.Given as goal

abbrev pub invariant-loop-a : goal.invariant-loop-a
invariant-loop-a l = l.pairs.items ≡ override_at (take l.a-index l.a-items) l.argument l.value
