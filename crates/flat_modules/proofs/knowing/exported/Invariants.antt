use Rattle.std.proofs.Common.{◌≡◌, filter, take}
use Rattle.tla_meaning.specs.declared.symbols.Entry.{Entry}
use Rattle.flat_modules.proofs.knowing.exported.Given as goal

abbrev pub invariant-loop-entry : goal.invariant-loop-entry
invariant-loop-entry l = l.names.items ≡ filter (λ (e : Entry). e.exported) (take l.entry-index l.entries)
