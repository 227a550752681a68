use Rattle.std.proofs.Common.{◌≡◌, ◌++◌, take}
use Rattle.op_inliner.specs.NamesBack.{without}
use Rattle.op_inliner.proofs.naming.push_without.Given as goal

abbrev pub invariant-loop-name : goal.invariant-loop-name
invariant-loop-name l = l.all.items ≡ l.fn.all.items ++ without l.binds (take l.name-index l.names)
