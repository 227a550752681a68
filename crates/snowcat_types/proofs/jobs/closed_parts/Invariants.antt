use Rattle.std.proofs.Common.{◌≡◌, map, take}
use Rattle.snowcat_rows.specs.Closing.{closing}
use Rattle.snowcat_rows.specs.Substitutions.{apply, then_sub}
use Rattle.snowcat_rows.specs.Views.{settled_by}
use Rattle.snowcat_types.specs.inner.Built.{means}
use Rattle.snowcat_types.specs.inner.Gathered.{PartsNamed}
use Rattle.snowcat_types.proofs.jobs.closed_parts.Given as goal

abbrev pub invariant-loop-part : goal.invariant-loop-part
invariant-loop-part l = record {
  mean : map means l.whole.items ≡ map (map (apply (then_sub closing (settled_by l.settled)))) (map means (take l.part-index l.parts));
  named : PartsNamed l.whole.items;
}
