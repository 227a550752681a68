use Rattle.std.proofs.Common.{◌≡◌, drop}
use Rattle.snowcat_rows.specs.FieldNames.{names}
use Rattle.snowcat_rows.specs.TypeTexts.{is_among}
use Rattle.snowcat_types.proofs.forms.has_field.Given as goal

abbrev pub invariant-loop-i : goal.invariant-loop-i
invariant-loop-i l = is_among l.name (names (drop l.i l.fields)) ≡ is_among l.name (names l.fields)
