use Rattle.std.proofs.Common.{◌≡◌, take}
use Rattle.tla_meaning.specs.Symbols.{all_repeated}
use Rattle.flat_modules.specs.inner.Places.{keys_of}
use Rattle.flat_modules.specs.inner.Telling.{Told}
use Rattle.flat_modules.proofs.resolving.Resolving.tell_names.Given as goal

abbrev pub invariant-loop-i : goal.invariant-loop-i
invariant-loop-i l = Told l.initial.self l.self (all_repeated l.initial.self.scope (take l.i l.entries)) × (l.index ≡ keys_of (take l.i l.entries))
