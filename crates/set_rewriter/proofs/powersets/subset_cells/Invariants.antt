use Rattle.cell_arena.specs.Growth.{Grows}
use Rattle.set_rewriter.specs.inner.Steps.{SubsetCells}
use Rattle.set_rewriter.proofs.powersets.subset_cells.Given as goal

abbrev pub invariant-loop-edge : goal.invariant-loop-edge
invariant-loop-edge l = record {
  grows : Grows l.fn.b l.b;
  subsets : SubsetCells l.fn.b l.b l.edges l.edge-index l.cells.items;
}
