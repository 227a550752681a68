use Rattle.std.proofs.Common.{◌≡◌, map}
use Rattle.transition_splitter.proofs.telling.copy_choice.Given as goal

abbrev pub invariant-loop-number : goal.invariant-loop-number
invariant-loop-number l = l.picks.items ≡ map (λ p. (p.0.now, p.1.now)) l.yielded
