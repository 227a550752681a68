use Rattle.std.proofs.Common.{◌≡◌}
use Rattle.tla_evaluator.proofs.Words.{numbered}
use Rattle.tla_evaluator.proofs.sequences.sequence.Given as goal

abbrev pub invariant-loop-item : goal.invariant-loop-item
invariant-loop-item l = l.pairs.items ≡ numbered 1 l.yielded
