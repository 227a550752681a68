use Rattle.std.proofs.Common.{◌≡◌}
use Rattle.tla_evaluator.proofs.Words.{power_of}
use Rattle.tla_evaluator.proofs.numbers.large_power.Given as goal

abbrev pub invariant-loop-k : goal.invariant-loop-k
invariant-loop-k l = l.power ≡ power_of l.a l._k
