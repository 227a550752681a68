use Rattle.std.proofs.Common.{◌-◌, ◌^◌, ◌<◌, ◌≤◌}
use Rattle.word_blaster.proofs.counts.bits_for.Given as goal

abbrev pub invariant-loop-k : goal.invariant-loop-k
invariant-loop-k l = 0 < l.k → 2 ^ (l.k - 1) ≤ l.most
