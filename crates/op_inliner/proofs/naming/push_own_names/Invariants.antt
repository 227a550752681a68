use Rattle.std.proofs.Common.{◌≡◌, ◌++◌, take}
use Rattle.op_inliner.specs.NamesBack.{own_names}
use Rattle.op_inliner.proofs.naming.push_own_names.Given as goal

abbrev pub invariant-loop-name : goal.invariant-loop-name
invariant-loop-name l = l.all.items ≡ l.fn.all.items ++ own_names (take l.name-index l.names)
