use Rattle.std.proofs.Common.{◌≡◌, take}
use Rattle.snowcat_types.specs.Rows.{typed_names}
use Rattle.snowcat_types.specs.inner.Built.{means, scope_of}
use Rattle.snowcat_types.proofs.forms.typed_names.Given as goal

abbrev pub invariant-loop-i : goal.invariant-loop-i
invariant-loop-i l = scope_of l.scope.items ≡ typed_names (take l.i l.names) (means l.types)
