use Rattle.tla_meaning.specs.Symbols.{entry_of}
use Rattle.flat_modules.specs.inner.Places.{key_of}
use Rattle.flat_modules.proofs.Places.{IsAt}
use Rattle.flat_modules.proofs.Scopes.{name_key}
use Rattle.flat_modules.proofs.scope.Scope.find.Given as goal

abbrev pub invariant-loop-place : goal.invariant-loop-place
invariant-loop-place l = IsAt name_key (entry_of l.name) (entry_of l.name l.self-inside.entries.items) (key_of l.name) l.self-inside.entries.items l.place

abbrev pub decreases-loop-place : goal.decreases-loop-place
decreases-loop-place l = l.place
