use Rattle.std.proofs.Common.{◌≡◌, replicate}
use Rattle.snowcat_rows.specs.Types.{mean}
use Rattle.snowcat_types.specs.inner.Built.{means}
use Rattle.snowcat_types.proofs.forms.copies.Given as goal

abbrev pub invariant-loop : goal.invariant-loop
invariant-loop l = means l.types.items ≡ replicate l.counter (mean l.a)
