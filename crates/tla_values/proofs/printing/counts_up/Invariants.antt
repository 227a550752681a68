use Rattle.std.proofs.Common.{◌≡◌, ◌+◌, drop}
use Rattle.tla_values.specs.Show.{counts_from, pairs_shown}
use Rattle.tla_values.proofs.printing.counts_up.Given as goal

abbrev pub invariant-loop-i : goal.invariant-loop-i
invariant-loop-i l = counts_from (l.i + 1) (pairs_shown (drop l.i l.pairs)) ≡ counts_from 1 (pairs_shown l.pairs)
