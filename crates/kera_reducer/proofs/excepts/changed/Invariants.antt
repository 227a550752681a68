use Rattle.std.proofs.Common.{◌≡◌, drop, reverse, suc}
use Rattle.kera_reducer.specs.inner.Excepts.{changed_by, paths_of}
use Rattle.kera_reducer.proofs.excepts.changed.Given as goal

abbrev pub invariant-loop-count : goal.invariant-loop-count
invariant-loop-count l =
    changed_by l.made.place l.made.ty.now (suc (suc l.made.depth)) l.tree
    (paths_of (drop l.count-index l.counts) (reverse l.indexes.items) (reverse l.rights.items))
    ≡ changed_by l.made.place l.made.ty.now (suc (suc l.made.depth)) l.fn.operands.function
    (paths_of l.counts l.fn.operands.indexes.items l.fn.rights.items)
