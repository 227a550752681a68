use Rattle.std.proofs.Common.{◌≡◌, take}
use Rattle.op_inliner.specs.Inlining.{level_names}
use Rattle.op_inliner.proofs.trees.level_names.Given as goal

abbrev pub invariant-loop-name : goal.invariant-loop-name
invariant-loop-name l = l.all.items ≡ level_names l.level (take l.name-index l.names)
