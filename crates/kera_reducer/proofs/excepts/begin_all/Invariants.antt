use Rattle.std.proofs.Common.{◌≡◌, Some, suc}
use Rattle.kera_reducer.specs.inner.Excepts.{begun_all, start}
use Rattle.kera_reducer.proofs.excepts.begin_all.Given as goal

abbrev pub invariant-loop-index : goal.invariant-loop-index
invariant-loop-index l =
    begun_all l.made.place (start l.made.ty.now (suc (suc l.made.depth)) l.fn.function) l.yielded ≡ Some l.path
