use Rattle.std.proofs.Common.{◌-◌}
use Rattle.cdcl_solver.proofs.heap.Heap.sink.Given as goal

abbrev pub decreases-loop-at : goal.decreases-loop-at
decreases-loop-at l = l.inner - l.at
