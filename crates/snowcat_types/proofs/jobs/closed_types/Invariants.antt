use Rattle.std.proofs.Common.{◌≡◌, map, take}
use Rattle.snowcat_rows.specs.Closing.{closing}
use Rattle.snowcat_rows.specs.Substitutions.{apply, then_sub}
use Rattle.snowcat_rows.specs.Views.{settled_by}
use Rattle.snowcat_types.specs.inner.Built.{means}
use Rattle.snowcat_types.specs.inner.Gathered.{TypesNamed}
use Rattle.snowcat_types.proofs.jobs.closed_types.Given as goal

abbrev pub invariant-loop-t : goal.invariant-loop-t
invariant-loop-t l = record {
  mean : means l.whole.items ≡ map (apply (then_sub closing (settled_by l.settled))) (means (take l.t-index l.types));
  named : TypesNamed l.whole.items;
}
