use Rattle.std.proofs.Common.{◌≡◌}
use Rattle.snowcat_types.specs.Rows.{sets_of}
use Rattle.snowcat_types.specs.inner.Built.{means}
use Rattle.snowcat_types.proofs.forms.sets_of.Given as goal

abbrev pub invariant-loop-item : goal.invariant-loop-item
invariant-loop-item l = means l.sets.items ≡ sets_of (means l.yielded)
