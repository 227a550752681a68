use Rattle.std.proofs.Common.{map, drop}
use Rattle.snowcat_rows.specs.Types.{mean, row}
use Rattle.snowcat_rows.specs.Chains.{Occurs, OccursSlot}
use Rattle.snowcat_rows.specs.Codes.{has, variable}
use Rattle.snowcat_rows.proofs.Fields.{Left}
use Rattle.snowcat_rows.proofs.occurrences.+occurs.Given as goal

abbrev pub invariant-occurs_all-loop-i : goal.invariant-occurs_all-loop-i
invariant-occurs_all-loop-i l = Occurs (variable l.x) (row (map mean l.ts)) → Occurs (variable l.x) (row (map mean (drop l.i l.ts)))

abbrev pub invariant-occurs_fields-loop-f : goal.invariant-occurs_fields-loop-f
invariant-occurs_fields-loop-f l = Left (λ n. OccursSlot (variable l.x) (has l.fs n)) (drop l.f-index l.fs)
