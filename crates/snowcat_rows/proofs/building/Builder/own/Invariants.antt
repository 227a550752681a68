use Rattle.std.proofs.Common.{◌≡◌, ◌++◌}
use Rattle.snowcat_rows.specs.Readings.{own}
use Rattle.snowcat_rows.specs.inner.Building.{site}
use Rattle.snowcat_rows.specs.inner.Readers.{site_of}
use Rattle.snowcat_rows.specs.inner.Naming.{all_named}
use Rattle.snowcat_rows.proofs.building.Builder.own.Given as goal

abbrev pub invariant-loop-i : goal.invariant-loop-i
invariant-loop-i l =
    (site_of l.self ≡ site (site_of l.fn.self).items ((site_of l.fn.self).seen ++ own l.i))
    × (all_named l.self ≡ all_named l.fn.self)
