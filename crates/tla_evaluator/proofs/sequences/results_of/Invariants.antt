use Rattle.std.proofs.Common.{◌≡◌, take}
use Rattle.tla_evaluator.proofs.Words.{results}
use Rattle.tla_evaluator.proofs.sequences.results_of.Given as goal

abbrev pub invariant-loop-value : goal.invariant-loop-value
invariant-loop-value l = l.items.items ≡ results (take l.value-index l.pairs)
