use Rattle.std.proofs.Common.{◌≡◌}
use Rattle.snowcat_rows.specs.Types.{mean}
use Rattle.snowcat_rows.specs.Chains.{solved, Occurs}
use Rattle.snowcat_rows.specs.Codes.{bindings_of}
use Rattle.snowcat_rows.proofs.Lookups.{ClearTo}
use Rattle.snowcat_rows.proofs.following.follow_root.Given as goal

abbrev pub invariant-loop-step : goal.invariant-loop-step
invariant-loop-step l =
    (solved (bindings_of l.bindings) (mean l.current) ≡ solved (bindings_of l.bindings) (mean l.t))
    × ClearTo l.step (bindings_of l.bindings) (λ w. Occurs w (mean l.current))
