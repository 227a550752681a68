use Rattle.std.proofs.Common.{◌≡◌, ◌++◌}
use Rattle.snowcat_types.specs.Rows.{branches}
use Rattle.snowcat_types.specs.inner.Built.{means, unknown_from}
use Rattle.snowcat_types.proofs.rows.branches.Given as goal

abbrev pub decreases-loop-left : goal.decreases-loop-left
decreases-loop-left l = l.left

abbrev pub invariant-loop-left : goal.invariant-loop-left
invariant-loop-left l = means l.types.items ++ branches (unknown_from l.first 0) l.left ≡ branches (unknown_from l.first 0) l.n
