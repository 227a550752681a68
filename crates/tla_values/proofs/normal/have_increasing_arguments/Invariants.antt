use Rattle.std.proofs.Common.{◌≡◌, ◌-◌, drop}
use Rattle.tla_values.specs.Sets.{arguments, increasing}
use Rattle.tla_values.proofs.normal.have_increasing_arguments.Given as goal

abbrev pub invariant-loop-i : goal.invariant-loop-i
invariant-loop-i l = increasing (arguments (drop (l.i - 1) l.pairs)) ≡ increasing (arguments l.pairs)
