use Rattle.std.proofs.Common.{◌≡◌}
use Rattle.snowcat_types.specs.Systems.{names_from}
use Rattle.snowcat_types.specs.inner.Built.{means}
use Rattle.snowcat_types.specs.inner.Gathered.{TypesNamed}
use Rattle.snowcat_types.proofs.gathering.names_of.Given as goal

abbrev pub invariant-loop-i : goal.invariant-loop-i
invariant-loop-i l = record {
  same : means l.names.items ≡ names_from 0 l.i;
  named : TypesNamed l.names.items;
}
