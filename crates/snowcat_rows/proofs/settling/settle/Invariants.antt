use Rattle.std.proofs.Common.{◌≡◌, true}
use Rattle.snowcat_rows.specs.Types.{mean}
use Rattle.snowcat_rows.specs.Chains.{solved, Occurs}
use Rattle.snowcat_rows.specs.FieldNames.{names_differ}
use Rattle.snowcat_rows.specs.inner.Naming.{all_bound_named}
use Rattle.snowcat_rows.specs.Codes.{bindings_of}
use Rattle.snowcat_rows.proofs.Lookups.{ClearTo}
use Rattle.snowcat_rows.proofs.settling.settle.Given as goal

abbrev pub invariant-loop-pass : goal.invariant-loop-pass
invariant-loop-pass l =
    (solved (bindings_of l.bindings) (mean l.current) ≡ solved (bindings_of l.bindings) (mean l.t))
    × ClearTo l.pass (bindings_of l.bindings) (λ w. Occurs w (mean l.current))
    × (all_bound_named l.bindings ≡ true → names_differ l.t ≡ true → names_differ l.current ≡ true)
