use Rattle.std.proofs.Common.{◌≡◌, ◌-◌, drop}
use Rattle.tla_values.specs.Sets.{increasing}
use Rattle.tla_values.proofs.normal.are_increasing.Given as goal

abbrev pub invariant-loop-i : goal.invariant-loop-i
invariant-loop-i l = increasing (drop (l.i - 1) l.items) ≡ increasing l.items
