use Rattle.std.proofs.Common.{◌≡◌, ◌≤◌, ◌-◌, vec_len}
use Rattle.tla_evaluator.proofs.Words.{from_on}
use Rattle.tla_evaluator.proofs.NumberLemmas.{size}
use Rattle.tla_evaluator.proofs.numbers.numbers_between.Given as goal

abbrev pub invariant-loop-n : goal.invariant-loop-n
invariant-loop-n l = record { same : l.members.items ≡ from_on l.a (vec_len l.members); within : vec_len l.members ≤ size l.a l.b }

abbrev pub decreases-loop-n : goal.decreases-loop-n
decreases-loop-n l = size l.a l.b - vec_len l.members
