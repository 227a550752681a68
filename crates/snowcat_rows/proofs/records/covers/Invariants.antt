use Rattle.std.proofs.Common.{◌≡◌, drop}
use Rattle.snowcat_rows.specs.inner.Rounds.{Is}
use Rattle.snowcat_rows.specs.Types.{none}
use Rattle.snowcat_rows.specs.Codes.{has}
use Rattle.snowcat_rows.proofs.Fields.{Left}
use Rattle.snowcat_rows.proofs.records.covers.Given as goal

abbrev pub invariant-loop-g : goal.invariant-loop-g
invariant-loop-g l = Left (λ n. Is (has l.gs n) × (has l.fs n ≡ none)) (drop l.g-index l.gs)
