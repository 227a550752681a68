use Rattle.std.proofs.Common.{take}
use Rattle.cell_arena.specs.Growth.{Grows}
use Rattle.kernel_trees.specs.Paths.{sets as sets_of}
use Rattle.expr_rewriter.specs.inner.Parts.{AreTrees}
use Rattle.path_cells.proofs.choosing.sets.Given as goal

abbrev pub invariant-loop-i : goal.invariant-loop-i
invariant-loop-i l = record {
  grows : Grows l.fn.b l.b;
  trees : AreTrees l.b l.env (take l.i (sets_of l.ps)) l.made.items;
}
