use Rattle.std.proofs.Common.{◌≡◌, map, take}
use Rattle.std.specs.List.{list_all}
use Rattle.snowcat_rows.specs.Types.{mean}
use Rattle.snowcat_rows.specs.Substitutions.{apply}
use Rattle.snowcat_rows.specs.Closing.{closing}
use Rattle.snowcat_rows.specs.FieldNames.{names, names_differ}
use Rattle.snowcat_rows.specs.inner.Naming.{fields_named}
use Rattle.snowcat_rows.specs.Codes.{named, changed}
use Rattle.snowcat_rows.proofs.closing.+closed.Given as goal

abbrev pub invariant-all_closed-loop-t : goal.invariant-all_closed-loop-t
invariant-all_closed-loop-t l =
    (map mean l.items.items ≡ map (λ u. apply closing (mean u)) (take l.t-index l.ts))
    × (list_all names_differ l.items.items ≡ list_all names_differ (take l.t-index l.ts))

abbrev pub invariant-fields_closed-loop-f : goal.invariant-fields_closed-loop-f
invariant-fields_closed-loop-f l =
    (named l.items.items ≡ changed closing (take l.f-index l.fs))
    × (names l.items.items ≡ names (take l.f-index l.fs))
    × (fields_named l.items.items ≡ fields_named (take l.f-index l.fs))
