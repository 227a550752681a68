use Rattle.std.proofs.Common.{◌≡◌, drop, true}
use Rattle.snowcat_rows.specs.Types.{mean}
use Rattle.snowcat_rows.specs.Chains.{solved}
use Rattle.snowcat_rows.specs.FieldNames.{names_differ}
use Rattle.snowcat_rows.specs.inner.Naming.{all_bound_named}
use Rattle.snowcat_rows.specs.Codes.{bindings_of}
use Rattle.snowcat_rows.proofs.replacement.put_all.Given as goal

abbrev pub invariant-loop-i : goal.invariant-loop-i
invariant-loop-i l =
    (solved (bindings_of l.bindings) (mean l.t) ≡ solved (bindings_of (drop l.i l.bindings)) (mean l.current))
    × (all_bound_named l.bindings ≡ true → names_differ l.t ≡ true → names_differ l.current ≡ true)
