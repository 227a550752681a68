use Rattle.std.proofs.Common.{◌≡◌, ◌+◌, ◌++◌, drop}
use Rattle.snowcat_types.proofs.WaitSteps.{all_indexes}
use Rattle.snowcat_types.proofs.undecided.push_indexes.Given as goal

abbrev pub invariant-loop-j : goal.invariant-loop-j
invariant-loop-j l =
    l.waits.items ++ all_indexes l.first l.from (l.i + l.j) (drop l.j l.indexes)
    ≡ l.fn.waits.items ++ all_indexes l.first l.first l.i l.indexes
