use Rattle.std.proofs.Common.{◌≡◌, drop}
use Rattle.kernel_reduction.specs.Reduction.{any_mentioned}
use Rattle.kera_reducer.proofs.mentions.+mentions.Given as goal

abbrev pub invariant-any_mentions-loop-e : goal.invariant-any_mentions-loop-e
invariant-any_mentions-loop-e l = any_mentioned l.assignable l.es ≡ any_mentioned l.assignable (drop l.e-index l.es)
