use Rattle.std.proofs.Common.{◌≡◌, take, true}
use Rattle.snowcat_rows.specs.inner.Naming.{all_named}
use Rattle.snowcat_rows.specs.inner.Readers.{AreBuilt, known_of, site_of}
use Rattle.snowcat_rows.proofs.building.build.Given as goal

abbrev pub invariant-loop-i : goal.invariant-loop-i
invariant-loop-i l = AreBuilt (known_of l.known) (take l.i l.marks) (site_of l.builder) × (all_named l.builder ≡ true)
