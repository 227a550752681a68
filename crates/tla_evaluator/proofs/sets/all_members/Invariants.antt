use Rattle.std.proofs.Common.{◌≡◌, ◌++◌, drop, option_map}
use Rattle.tla_evaluator.proofs.Words.{all_set_items}
use Rattle.tla_evaluator.specs.inner.Results.{all_of}
use Rattle.tla_evaluator.proofs.sets.all_members.Given as goal

abbrev pub invariant-loop-v : goal.invariant-loop-v
invariant-loop-v l =
    option_map all_of (all_set_items l.sets) ≡ option_map (λ xss. l.members.items ++ all_of xss) (all_set_items (drop l.v-index l.sets))
