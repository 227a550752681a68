use Rattle.std.proofs.Common.{◌≡◌, drop}
use Rattle.tla_values.specs.Show.{are_named, pairs_shown}
use Rattle.tla_values.proofs.printing.all_named.Given as goal

abbrev pub invariant-loop-argument : goal.invariant-loop-argument
invariant-loop-argument l = are_named (pairs_shown (drop l.argument-index l.pairs)) ≡ are_named (pairs_shown l.pairs)
