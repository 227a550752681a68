use Rattle.std.proofs.Common.{◌≡◌, take}
use Rattle.kera_reducer.specs.inner.Standing.{names_of}
use Rattle.kera_reducer.proofs.ChildSteps.{FirstChildren}
use Rattle.kera_reducer.proofs.reducer.Reducer.+reduce.Given as goal

abbrev pub invariant-children-loop-i : goal.invariant-children-loop-i
invariant-children-loop-i l =
    (names_of l.self ≡ names_of l.fn.self)
    × FirstChildren l.passed (names_of l.fn.self) l.e (take l.i l.args) l.fn.self.types.now l.kids.items l.self.types.now
