use Rattle.std.proofs.Common.{◌≡◌, take}
use Rattle.tla_meaning.proofs.job.State.copy.Given as goal

abbrev pub invariant-loop-v : goal.invariant-loop-v
invariant-loop-v l = l.vals.items ≡ take l.v-index l.v-items
