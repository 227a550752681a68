use Rattle.std.proofs.Common.{◌≡◌, ◌++◌, replicate}
use Rattle.kera_reducer.specs.inner.Standing.{names_of}
use Rattle.kera_reducer.proofs.reducer.Reducer.repeat.Given as goal

abbrev pub invariant-loop : goal.invariant-loop
invariant-loop l =
    (names_of l.self ≡ names_of l.fn.self ++ replicate l.counter l.name) × (l.self.types ≡ l.fn.self.types)
