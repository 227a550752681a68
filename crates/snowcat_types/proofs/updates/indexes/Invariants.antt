use Rattle.std.proofs.Common.{◌≡◌}
use Rattle.snowcat_types.specs.Rows.{index_types}
use Rattle.snowcat_types.specs.inner.Built.{means, unknown_from}
use Rattle.snowcat_types.proofs.updates.indexes.Given as goal

abbrev pub invariant-loop-j : goal.invariant-loop-j
invariant-loop-j l = means l.types.items ≡ index_types (unknown_from l.first) l.i l.j
