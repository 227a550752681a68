use Rattle.std.proofs.Common.{◌≡◌, ◌++◌, map, take}
use Rattle.op_inliner.specs.NamesBack.{all_binds, opened}
use Rattle.op_inliner.proofs.naming.+push_binds.Given as goal

abbrev pub invariant-push_all_binds-loop-e : goal.invariant-push_all_binds-loop-e
invariant-push_all_binds-loop-e l = l.all.items ≡ l.fn.all.items ++ all_binds (map opened (take l.e-index l.trees))
