use Rattle.std.proofs.Common.{◌≡◌, map, take}
use Rattle.shape_bounds.specs.inner.Walks.{some_shapes}
use Rattle.shape_bounds.proofs.Beginning.{some_mean}
use Rattle.shape_bounds.proofs.starting.some_each.Given as goal

abbrev pub invariant-loop-i : goal.invariant-loop-i
invariant-loop-i l = some_shapes l.names.items ≡ map some_mean (take l.i l.shapes)
