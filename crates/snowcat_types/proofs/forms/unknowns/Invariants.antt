use Rattle.std.proofs.Common.{◌≡◌}
use Rattle.snowcat_types.specs.Rows.{from_type}
use Rattle.snowcat_types.specs.inner.Built.{means, unknown_from}
use Rattle.snowcat_types.proofs.forms.unknowns.Given as goal

abbrev pub invariant-loop-i : goal.invariant-loop-i
invariant-loop-i l = means l.types.items ≡ from_type (unknown_from l.first) l.start l.i
