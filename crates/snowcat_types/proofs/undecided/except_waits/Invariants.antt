use Rattle.std.proofs.Common.{◌≡◌, ◌++◌, drop}
use Rattle.snowcat_types.specs.Waiting.{waiting_updates}
use Rattle.snowcat_types.proofs.undecided.except_waits.Given as goal

abbrev pub invariant-loop-n : goal.invariant-loop-n
invariant-loop-n l =
    l.waits.items ++ waiting_updates l.first l.i (drop l.n-index l.counts) (drop l.start l.indexes)
    ≡ waiting_updates l.first 0 l.counts l.indexes
