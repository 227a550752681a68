use Rattle.std.proofs.Common.{◌≡◌, map, take}
use Rattle.tla_evaluator.proofs.Words.{argument}
use Rattle.tla_evaluator.proofs.binders.function_at.Given as goal

abbrev pub invariant-loop-choice : goal.invariant-loop-choice
invariant-loop-choice l = l.arguments.items ≡ map argument (take l.choice-index l.choices)
