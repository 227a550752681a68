use Rattle.std.proofs.Common.{◌≡◌}
use Rattle.tla_meaning.specs.Symbols.{with_new}
use Rattle.flat_modules.proofs.scope.Scope.add_all.Given as goal

abbrev pub invariant-loop-entry : goal.invariant-loop-entry
invariant-loop-entry l = l.self ≡ with_new l.initial.self l.yielded
