use Rattle.std.specs.List.{list_any}
use Rattle.tla_meaning.specs.Symbols.{serves}
use Rattle.flat_modules.specs.inner.Places.{key_of}
use Rattle.flat_modules.proofs.Places.{IsAt}
use Rattle.flat_modules.proofs.Scopes.{name_key}
use Rattle.flat_modules.proofs.scope.Scope.is_there.Given as goal

abbrev pub invariant-loop-place : goal.invariant-loop-place
invariant-loop-place l =
    IsAt name_key (list_any (serves l.new)) (list_any (serves l.new) l.self-inside.entries.items) (key_of l.new.name) l.self-inside.entries.items l.place

abbrev pub decreases-loop-place : goal.decreases-loop-place
decreases-loop-place l = l.place
