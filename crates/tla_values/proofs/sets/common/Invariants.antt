use Rattle.std.proofs.Common.{◌≡◌, take}
use Rattle.tla_values.specs.Sets.{inter_of}
use Rattle.tla_values.proofs.sets.common.Given as goal

abbrev pub invariant-loop-item : goal.invariant-loop-item
invariant-loop-item l = l.members.items ≡ inter_of (take l.item-index l.a) l.b
