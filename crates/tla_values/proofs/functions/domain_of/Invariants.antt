use Rattle.std.proofs.Common.{◌≡◌, take}
use Rattle.tla_values.specs.Sets.{arguments}
use Rattle.tla_values.proofs.functions.domain_of.Given as goal

abbrev pub invariant-loop-argument : goal.invariant-loop-argument
invariant-loop-argument l = l.members.items ≡ arguments (take l.argument-index l.argument-items)
