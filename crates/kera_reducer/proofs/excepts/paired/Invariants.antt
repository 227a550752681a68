use Rattle.std.proofs.Common.{◌≡◌, vec_len}
use Rattle.kera_reducer.specs.inner.Excepts.{onto, pair_of, paired}
use Rattle.kera_reducer.proofs.excepts.paired.Given as goal

abbrev pub invariant-loop-index : goal.invariant-loop-index
invariant-loop-index l =
    paired l.place l.fn.function l.fn.indexes.items ≡ pair_of l.place l.fn.function (onto l.place l.before.items l.behind)

abbrev pub decreases-loop-index : goal.decreases-loop-index
decreases-loop-index l = vec_len l.before
