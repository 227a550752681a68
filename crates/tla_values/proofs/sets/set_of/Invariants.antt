use Rattle.std.proofs.Common.{◌≡◌, vec_len, IsTrue}
use Rattle.tla_values.specs.Sets.{increasing, union_of, set_of}
use Rattle.tla_values.proofs.sets.set_of.Given as goal

abbrev pub invariant-loop-v : goal.invariant-loop-v
invariant-loop-v l =
    (union_of l.rest.items l.members.items ≡ set_of l.initial.rest.items) × IsTrue (increasing l.members.items)

abbrev pub decreases-loop-v : goal.decreases-loop-v
decreases-loop-v l = vec_len l.rest
