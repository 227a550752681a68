use Rattle.std.proofs.Common.{◌≡◌, ◌++◌, map, take}
use Rattle.op_inliner.specs.NamesBack.{opened}
use Rattle.op_inliner.specs.inner.Naming.{reads_of}
use Rattle.op_inliner.proofs.naming.+push_reads.Given as goal

abbrev pub invariant-push_children_reads-loop-i : goal.invariant-push_children_reads-loop-i
invariant-push_children_reads-loop-i l = l.all.items ≡ l.fn.all.items ++ reads_of l.inner l.marks (map opened (take l.i l.trees))
