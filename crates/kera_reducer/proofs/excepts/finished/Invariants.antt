use Rattle.std.proofs.Common.{◌≡◌, vec_len}
use Rattle.kera_reducer.specs.inner.Excepts.{closed}
use Rattle.kera_reducer.proofs.excepts.finished.Given as goal

abbrev pub invariant-loop-update : goal.invariant-loop-update
invariant-loop-update l = closed l.place l.fn.updates l.fn.right ≡ closed l.place l.outer.items l.tree

abbrev pub decreases-loop-update : goal.decreases-loop-update
decreases-loop-update l = vec_len l.outer
