use Rattle.std.proofs.Common.{◌≡◌, map, take, true}
use Rattle.std.specs.List.{list_all}
use Rattle.snowcat_rows.specs.Types.{mean}
use Rattle.snowcat_rows.specs.Substitutions.{apply}
use Rattle.snowcat_rows.specs.FieldNames.{names, names_differ}
use Rattle.snowcat_rows.specs.inner.Lookups.{looked}
use Rattle.snowcat_rows.specs.inner.Naming.{all_bound_named, fields_named}
use Rattle.snowcat_rows.specs.Codes.{named, changed, bindings_of}
use Rattle.snowcat_rows.proofs.replacement.+replace.Given as goal

abbrev pub invariant-replace_all-loop-t : goal.invariant-replace_all-loop-t
invariant-replace_all-loop-t l =
    (map mean l.items.items ≡ map (λ u. apply (looked (bindings_of l.bindings)) (mean u)) (take l.t-index l.ts))
    × (all_bound_named l.bindings ≡ true → list_all names_differ (take l.t-index l.ts) ≡ true → list_all names_differ l.items.items ≡ true)

abbrev pub invariant-replace_fields-loop-f : goal.invariant-replace_fields-loop-f
invariant-replace_fields-loop-f l =
    (named l.items.items ≡ changed (looked (bindings_of l.bindings)) (take l.f-index l.fs))
    × (names l.items.items ≡ names (take l.f-index l.fs))
    × (all_bound_named l.bindings ≡ true → fields_named (take l.f-index l.fs) ≡ true → fields_named l.items.items ≡ true)
