use Rattle.std.proofs.Common.{◌≡◌, ◌++◌, drop}
use Rattle.op_inliner.specs.NamesBack.{free_names}
use Rattle.op_inliner.proofs.naming.free_names.Given as goal

abbrev pub invariant-loop-name : goal.invariant-loop-name
invariant-loop-name l = l.all.items ++ free_names l.there (drop l.name-index l.names) l.taken.items ≡ free_names l.there l.names l.fn.taken.items
