use Rattle.std.proofs.Common.{◌≡◌, ◌++◌, drop, option_map}
use Rattle.tla_evaluator.proofs.Words.{truths}
use Rattle.tla_evaluator.proofs.binders.truths.Given as goal

abbrev pub invariant-loop-v : goal.invariant-loop-v
invariant-loop-v l = truths l.values ≡ option_map (λ bs. l.all.items ++ bs) (truths (drop l.v-index l.values))
