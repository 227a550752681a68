use Rattle.std.proofs.Common.{◌≡◌, map, take}
use Rattle.snowcat_rows.specs.Numbered.{numbered}
use Rattle.snowcat_rows.proofs.renumbering.+numbered.Given as goal

abbrev pub invariant-all_numbered-loop-t : goal.invariant-all_numbered-loop-t
invariant-all_numbered-loop-t l = l.items.items ≡ map (numbered l.known) (take l.t-index l.ts)

abbrev pub invariant-fields_numbered-loop-f : goal.invariant-fields_numbered-loop-f
invariant-fields_numbered-loop-f l = l.items.items ≡ map (λ f. (f.0, numbered l.known f.1)) (take l.f-index l.fs)
