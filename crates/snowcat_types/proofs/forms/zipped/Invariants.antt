use Rattle.std.proofs.Common.{◌≡◌, ◌≤◌, length, take, true}
use Rattle.snowcat_rows.specs.inner.Naming.{record_named}
use Rattle.snowcat_types.specs.inner.Gathered.{TypesNamed}
use Rattle.snowcat_types.specs.inner.Named.{Tells}
use Rattle.snowcat_types.proofs.forms.zipped.Given as goal

abbrev pub invariant-loop-i : goal.invariant-loop-i
invariant-loop-i l = record {
  within : l.i ≤ length l.types;
  tells : Tells l.fields.items (take l.i l.names) l.types;
  named : TypesNamed l.types → record_named l.fields.items ≡ true;
}
