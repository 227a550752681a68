use Rattle.std.proofs.Common.{◌≡◌, map, take}
use Rattle.shape_bounds.specs.inner.Walks.{some_shapes}
use Rattle.shape_bounds.proofs.Beginning.{given_mean}
use Rattle.shape_bounds.proofs.starting.given_each.Given as goal

abbrev pub invariant-loop-i : goal.invariant-loop-i
invariant-loop-i l = some_shapes l.names.items ≡ map given_mean (take l.i l.shapes)
