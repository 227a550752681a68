use Rattle.std.proofs.Common.{◌≡◌, map}
use Rattle.tla_evaluator.proofs.functions.paired.Given as goal

abbrev pub invariant-loop-argument : goal.invariant-loop-argument
invariant-loop-argument l = l.pairs.items ≡ map (λ p. (p.0.now, p.1)) l.yielded
