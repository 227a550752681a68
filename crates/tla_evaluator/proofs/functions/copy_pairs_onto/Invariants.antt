use Rattle.std.proofs.Common.{◌≡◌, ◌++◌, take}
use Rattle.tla_evaluator.proofs.functions.copy_pairs_onto.Given as goal

abbrev pub invariant-loop-argument : goal.invariant-loop-argument
invariant-loop-argument l = l.out.items ≡ l.initial.out.items ++ take l.argument-index l.pairs
