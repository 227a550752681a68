use Rattle.std.proofs.Common.{take}
use Rattle.path_bounds.specs.inner.Walking.{ArePassed}
use Rattle.path_bounds.proofs.bounding.bounded_each.Given as goal

abbrev pub invariant-loop-i : goal.invariant-loop-i
invariant-loop-i l = ArePassed l.fn.walk l.walk (take l.i l.steps) l.bounded.items
