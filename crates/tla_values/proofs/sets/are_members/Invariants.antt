use Rattle.std.proofs.Common.{◌≡◌, drop}
use Rattle.tla_values.specs.Sets.{subset}
use Rattle.tla_values.proofs.sets.are_members.Given as goal

abbrev pub invariant-loop-item : goal.invariant-loop-item
invariant-loop-item l = subset (drop l.item-index l.items) l.members ≡ subset l.items l.members
