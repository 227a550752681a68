use Rattle.std.proofs.Common.{◌≡◌, map, take}
use Rattle.op_inliner.specs.inner.Naming.{renaming}
use Rattle.op_inliner.proofs.naming.all_renamed.Given as goal

abbrev pub invariant-loop-name : goal.invariant-loop-name
invariant-loop-name l = l.all.items ≡ map (renaming l.pairs) (take l.name-index l.names)
