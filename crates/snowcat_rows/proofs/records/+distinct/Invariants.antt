use Rattle.std.proofs.Common.{◌≡◌, drop}
use Rattle.std.specs.List.{list_all}
use Rattle.snowcat_rows.specs.FieldNames.{names_differ}
use Rattle.snowcat_rows.specs.inner.Naming.{fields_named}
use Rattle.snowcat_rows.proofs.records.+distinct.Given as goal

abbrev pub invariant-all_distinct-loop-i : goal.invariant-all_distinct-loop-i
invariant-all_distinct-loop-i l = list_all names_differ l.ts ≡ list_all names_differ (drop l.i l.ts)

abbrev pub invariant-fields_distinct-loop-i : goal.invariant-fields_distinct-loop-i
invariant-fields_distinct-loop-i l = fields_named l.fs ≡ fields_named (drop l.i l.fs)
