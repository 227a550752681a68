use Rattle.std.proofs.Common.{◌≡◌, map, true}
use Rattle.std.specs.List.{list_all}
use Rattle.snowcat_rows.specs.FieldNames.{names_differ}
use Rattle.snowcat_rows.specs.inner.Naming.{fields_named}
use Rattle.snowcat_rows.specs.Types.{mean}
use Rattle.snowcat_rows.specs.Codes.{named}
use Rattle.snowcat_rows.specs.Readings.{zipped}
use Rattle.snowcat_rows.proofs.building.with_names.Given as goal

abbrev pub invariant-loop-t : goal.invariant-loop-t
invariant-loop-t l =
    (named l.fields.items ≡ zipped l.names (map mean l.yielded))
    × (list_all names_differ l.yielded ≡ true → fields_named l.fields.items ≡ true)
