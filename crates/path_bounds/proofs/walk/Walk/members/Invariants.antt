use Rattle.std.proofs.Common.{take}
use Rattle.path_bounds.specs.inner.Walking.{AreMembers}
use Rattle.path_bounds.proofs.walk.Walk.members.Given as goal

abbrev pub invariant-loop-i : goal.invariant-loop-i
invariant-loop-i l = AreMembers l.self (take l.i l.sets) l.members.items
