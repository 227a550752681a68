use Rattle.std.proofs.Common.{◌≡◌, take}
use Rattle.tla_values.specs.Sets.{minus}
use Rattle.tla_values.proofs.sets.others.Given as goal

abbrev pub invariant-loop-item : goal.invariant-loop-item
invariant-loop-item l = l.members.items ≡ minus (take l.item-index l.a) l.b
