use Rattle.std.proofs.Common.{◌≡◌, ◌++◌, ◌+◌, take, drop, map, option_map}
use Rattle.tla_evaluator.proofs.Words.{items_from}
use Rattle.tla_evaluator.proofs.operators.is_sequence.Given as goal

abbrev pub invariant-loop-i : goal.invariant-loop-i
invariant-loop-i l = items_from 1 l.pairs ≡ option_map (λ xs. map (λ p. p.1) (take l.i l.pairs) ++ xs) (items_from (l.i + 1) (drop l.i l.pairs))
