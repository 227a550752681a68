use Rattle.std.proofs.Common.{◌≡◌, map, take}
use Rattle.tla_evaluator.proofs.Words.{Text}
use Rattle.tla_evaluator.proofs.functions.record.Given as goal

abbrev pub invariant-loop-name : goal.invariant-loop-name
invariant-loop-name l = l.texts.items ≡ map (λ n. Text n) (take l.name-index l.names)
