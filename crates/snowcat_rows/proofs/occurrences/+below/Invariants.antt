use Rattle.std.proofs.Common.{map, drop, ◌<◌}
use Rattle.snowcat_rows.specs.Types.{mean, row}
use Rattle.snowcat_rows.specs.inner.Below.{Below, EndBelow}
use Rattle.snowcat_rows.proofs.Throughouts.{Left}
use Rattle.snowcat_rows.proofs.occurrences.+below.Given as goal

abbrev pub invariant-are_below-loop-i : goal.invariant-are_below-loop-i
invariant-are_below-loop-i l = Below l.limit (row (map mean (drop l.i l.ts))) → Below l.limit (row (map mean l.ts))

abbrev pub invariant-fields_below-loop-f : goal.invariant-fields_below-loop-f
invariant-fields_below-loop-f l = Left (λ v. v < l.limit) (λ h. Unit {0}) (EndBelow l.limit) l.fs (drop l.f-index l.fs)
