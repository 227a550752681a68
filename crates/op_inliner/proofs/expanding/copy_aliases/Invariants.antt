use Rattle.std.proofs.Common.{◌≡◌, take}
use Rattle.op_inliner.proofs.expanding.copy_aliases.Given as goal

abbrev pub invariant-loop-alias : goal.invariant-loop-alias
invariant-loop-alias l = l.all.items ≡ take l.alias-index l.aliases
