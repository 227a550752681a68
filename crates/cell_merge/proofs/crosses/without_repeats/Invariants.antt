use Rattle.std.proofs.Common.{take}
use Rattle.cell_merge.specs.inner.Crosses.{AreBoth}
use Rattle.cell_merge.proofs.crosses.without_repeats.Given as goal

abbrev pub invariant-loop-y : goal.invariant-loop-y
invariant-loop-y l = AreBoth l.xs (take l.y-index l.ys) l.all.items
