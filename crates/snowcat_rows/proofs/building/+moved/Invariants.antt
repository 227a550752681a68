use Rattle.std.proofs.Common.{◌≡◌, map, take}
use Rattle.std.specs.List.{list_all}
use Rattle.snowcat_rows.specs.FieldNames.{names, names_differ}
use Rattle.snowcat_rows.specs.inner.Naming.{fields_named}
use Rattle.snowcat_rows.specs.Types.{mean}
use Rattle.snowcat_rows.specs.Codes.{named}
use Rattle.snowcat_rows.specs.Readings.{moved}
use Rattle.snowcat_rows.specs.inner.Readers.{moved_fields}
use Rattle.snowcat_rows.proofs.building.+moved.Given as goal

abbrev pub invariant-copy_all_moved-loop-t : goal.invariant-copy_all_moved-loop-t
invariant-copy_all_moved-loop-t l =
    (map mean l.items.items ≡ map (λ u. moved l.by (mean u)) (take l.t-index l.ts))
    × (list_all names_differ l.items.items ≡ list_all names_differ (take l.t-index l.ts))

abbrev pub invariant-copy_fields_moved-loop-f : goal.invariant-copy_fields_moved-loop-f
invariant-copy_fields_moved-loop-f l =
    (named l.items.items ≡ moved_fields l.by (take l.f-index l.fs))
    × (names l.items.items ≡ names (take l.f-index l.fs))
    × (fields_named l.items.items ≡ fields_named (take l.f-index l.fs))
