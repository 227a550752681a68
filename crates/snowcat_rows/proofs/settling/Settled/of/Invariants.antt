use Rattle.std.proofs.Common.{◌≡◌, drop, true}
use Rattle.snowcat_rows.specs.Codes.{bindings_of}
use Rattle.snowcat_rows.specs.inner.Naming.{all_bound_named}
use Rattle.snowcat_rows.specs.inner.Places.{Indexed}
use Rattle.snowcat_rows.specs.inner.Settling.{settled}
use Rattle.snowcat_rows.proofs.settling.Settled.of.Given as goal

abbrev pub invariant-loop-at : goal.invariant-loop-at
invariant-loop-at l = record {
  settled : bindings_of l.made.items ≡ settled (bindings_of (drop l.at l.bindings));
  indexed : Indexed l.places l.made.items;
  named : all_bound_named l.made.items ≡ true;
}
