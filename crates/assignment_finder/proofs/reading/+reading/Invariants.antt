use Rattle.std.proofs.Common.{take}
use Rattle.assignment_finder.specs.inner.Open.{open_by}
use Rattle.assignment_finder.specs.inner.Reads.{IsFirst, reads_any}
use Rattle.assignment_finder.proofs.reading.+reading.Given as goal

abbrev pub invariant-first_of-loop-k : goal.invariant-first_of-loop-k
invariant-first_of-loop-k l = IsFirst (reads_any (open_by l.free) (take l.k-index l.ks)) l.first
