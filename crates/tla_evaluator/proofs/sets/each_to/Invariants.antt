use Rattle.std.proofs.Common.{◌≡◌, take}
use Rattle.tla_evaluator.proofs.Words.{each_to}
use Rattle.tla_evaluator.proofs.sets.each_to.Given as goal

abbrev pub invariant-loop : goal.invariant-loop
invariant-loop l = l.lists.items ≡ each_to (take l.index l.arguments) l.results
