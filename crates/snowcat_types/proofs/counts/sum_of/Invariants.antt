use Rattle.std.proofs.Common.{◌≡◌, ◌+◌, drop}
use Rattle.snowcat_types.specs.Rows.{sum}
use Rattle.snowcat_types.proofs.counts.sum_of.Given as goal

abbrev pub invariant-loop-count : goal.invariant-loop-count
invariant-loop-count l = l.whole + sum (drop l.count-index l.counts) ≡ sum l.counts
