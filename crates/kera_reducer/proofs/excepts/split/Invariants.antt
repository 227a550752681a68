use Rattle.std.proofs.Common.{take, reverse}
use Rattle.kera_reducer.specs.inner.Excepts.{IsSplit}
use Rattle.kera_reducer.proofs.excepts.split.Given as goal

abbrev pub invariant-loop-count : goal.invariant-loop-count
invariant-loop-count l =
    IsSplit (take l.count-index l.counts) l.fn.kids.items l.functions.items l.indexes.items l.rights.items (reverse l.stack.items)
