use Rattle.std.proofs.Common.{◌≡◌, map, take}
use Rattle.shape_bounds.specs.inner.Walks.{some_shapes}
use Rattle.shape_bounds.proofs.Beginning.{nothing}
use Rattle.shape_bounds.proofs.starting.none_each.Given as goal

abbrev pub invariant-loop : goal.invariant-loop
invariant-loop l = some_shapes l.names.items ≡ map nothing (take l.counter l.fixed)
