use Rattle.std.proofs.Common.{◌≡◌, map, take}
use Rattle.tla_meaning.specs.Scopes.{find_last}
use Rattle.kernel_reduction.specs.inner.Settings.{counted}
use Rattle.kera_reducer.proofs.reducer.Reducer.number_of.Given as goal

abbrev pub invariant-loop-i : goal.invariant-loop-i
invariant-loop-i l = find_last l.name (counted (map (λ t. t.now) (take l.i l.names))) ≡ l.found
