use Rattle.std.proofs.Common.{◌≡◌, []}
use Rattle.snowcat_rows.specs.Views.{issued_of, kept_by}
use Rattle.snowcat_types.proofs.solving.issued.Given as goal

abbrev pub invariant-loop-known : goal.invariant-loop-known
invariant-loop-known l = record { count : issued_of l.subst ≡ l.known; none : kept_by l.subst ≡ [] }
