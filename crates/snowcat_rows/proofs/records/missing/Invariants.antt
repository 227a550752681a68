use Rattle.std.proofs.Common.{◌≡◌, drop, take, List, ℕ}
use Rattle.snowcat_rows.specs.Substitutions.{or_else}
use Rattle.snowcat_rows.specs.inner.Rounds.{only}
use Rattle.snowcat_rows.specs.Codes.{has}
use Rattle.snowcat_rows.proofs.Distinct.{Thin}
use Rattle.snowcat_rows.proofs.records.missing.Given as goal

abbrev pub invariant-loop-f : goal.invariant-loop-f
invariant-loop-f l =
    ((n : List ℕ) → or_else (has l.items.items n) (only (has (drop l.f-index l.fs) n) (has l.gs n)) ≡ only (has l.fs n) (has l.gs n))
    × Thin l.items.items (take l.f-index l.fs)
