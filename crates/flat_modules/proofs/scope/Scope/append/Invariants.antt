use Rattle.std.proofs.Common.{◌≡◌, ◌++◌}
use Rattle.flat_modules.proofs.scope.Scope.append.Given as goal

abbrev pub invariant-loop-entry : goal.invariant-loop-entry
invariant-loop-entry l = l.self ≡ l.initial.self ++ l.yielded
