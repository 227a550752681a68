use Rattle.std.proofs.Common.{◌+◌, ◌-◌, length}
use Rattle.snowcat_types.specs.inner.Awaited.{AreAlike}
use Rattle.snowcat_types.proofs.watching.reach.Given as goal

abbrev pub invariant-room : goal.invariant-room
invariant-room l = AreAlike l.initial.lists.items l.lists.items

abbrev pub decreases-room : goal.decreases-room
decreases-room l = l.variable + 1 - length l.lists.items
