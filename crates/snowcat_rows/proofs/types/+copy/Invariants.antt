use Rattle.std.proofs.Common.{◌≡◌, take}
use Rattle.snowcat_rows.proofs.types.+copy.Given as goal

abbrev pub invariant-copy_all-loop-t : goal.invariant-copy_all-loop-t
invariant-copy_all-loop-t l = l.items.items ≡ take l.t-index l.ts

abbrev pub invariant-copy_fields-loop-f : goal.invariant-copy_fields-loop-f
invariant-copy_fields-loop-f l = l.items.items ≡ take l.f-index l.fs
