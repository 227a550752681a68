use Rattle.std.proofs.Common.{◌≡◌, drop, take, true}
use Rattle.snowcat_rows.specs.inner.Naming.{fields_named, record_named}
use Rattle.snowcat_rows.proofs.Fields.{Joined}
use Rattle.snowcat_rows.proofs.replacement.follow.Given as goal

abbrev pub invariant-loop-g : goal.invariant-loop-g
invariant-loop-g l =
    Joined l.initial.fields.items l.rest l.fields.items (drop l.g-index l.rest)
    × (record_named l.initial.fields.items ≡ true → fields_named (take l.g-index l.rest) ≡ true → record_named l.fields.items ≡ true)
