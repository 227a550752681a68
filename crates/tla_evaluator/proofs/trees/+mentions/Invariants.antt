use Rattle.std.proofs.Common.{◌≡◌, drop}
use Rattle.tla_evaluator.proofs.Words.{list_any}
use Rattle.tla_evaluator.specs.inner.Mentions.{mentions}
use Rattle.tla_evaluator.proofs.trees.+mentions.Given as goal

abbrev pub invariant-any_mentions-loop-e : goal.invariant-any_mentions-loop-e
invariant-any_mentions-loop-e l = list_any (mentions l.assigned) l.trees ≡ list_any (mentions l.assigned) (drop l.e-index l.trees)
