use Rattle.std.proofs.Common.{◌≡◌, ◌++◌, [], drop, take}
use Rattle.kera_reducer.specs.inner.Excepts.{reads}
use Rattle.kera_reducer.proofs.excepts.read_all.Given as goal

abbrev pub invariant-loop-i : goal.invariant-loop-i
invariant-loop-i l =
    l.read.items ++ reads l.pairs.number l.pairs.ty (take l.i l.rests) (drop l.i l.rests) (drop l.i l.indexes)
    ≡ reads l.pairs.number l.pairs.ty [] l.rests l.indexes
