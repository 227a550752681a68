use Rattle.std.proofs.Common.{◌≡◌, ◌++◌, drop, map}
use Rattle.snowcat_types.specs.Rows.{update_operands}
use Rattle.snowcat_types.specs.inner.Built.{operand_of, unknown_from}
use Rattle.snowcat_types.proofs.updates.updates.Given as goal

abbrev pub invariant-loop-n : goal.invariant-loop-n
invariant-loop-n l = map operand_of l.operands.items ++ update_operands l.names (unknown_from l.first) l.i (drop l.n-index l.counts) ≡ update_operands l.names (unknown_from l.first) 0 l.counts
