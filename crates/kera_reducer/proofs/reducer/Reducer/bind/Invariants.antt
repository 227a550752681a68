use Rattle.std.proofs.Common.{◌≡◌, ◌++◌, take}
use Rattle.kera_reducer.specs.inner.Standing.{names_of}
use Rattle.kera_reducer.proofs.reducer.Reducer.bind.Given as goal

abbrev pub invariant-loop-name : goal.invariant-loop-name
invariant-loop-name l =
    (names_of l.self ≡ names_of l.fn.self ++ take l.name-index l.names) × (l.self.types ≡ l.fn.self.types)
