use Rattle.std.proofs.Common.{take}
use Rattle.assignment_finder.specs.inner.Open.{open_by}
use Rattle.assignment_finder.specs.inner.Reads.{IsFirst, sets_read}
use Rattle.assignment_finder.proofs.reading.first_of_sets.Given as goal

abbrev pub invariant-loop-set : goal.invariant-loop-set
invariant-loop-set l = IsFirst (sets_read (open_by l.free) (take l.set-index l.sets)) l.first
