use Rattle.std.proofs.Common.{take}
use Rattle.shape_bounds.specs.inner.Stacks.{AreUnderAll}
use Rattle.shape_bounds.proofs.names.Names.under_all.Given as goal

abbrev pub invariant-loop-i : goal.invariant-loop-i
invariant-loop-i l = AreUnderAll l.fn.self l.self l.k (take l.i l.stacks) l.all.items
