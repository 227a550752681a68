use Rattle.std.proofs.Common.{◌≡◌, take}
use Rattle.kernel_reduction.specs.Rows.{behind}
use Rattle.kera_reducer.proofs.excepts.behind.Given as goal

abbrev pub invariant-loop-ty : goal.invariant-loop-ty
invariant-loop-ty l = l.tree ≡ behind l.place l.fn.pairs (take l.ty-index l.rests)
