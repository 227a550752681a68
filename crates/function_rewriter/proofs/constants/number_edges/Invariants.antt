use Rattle.cell_arena.specs.Growth.{Grows}
use Rattle.cell_merge.specs.Sorts.{number}
use Rattle.function_rewriter.specs.inner.Constants.{ConstantEdges, numbers_from}
use Rattle.function_rewriter.proofs.constants.number_edges.Given as goal

abbrev pub invariant-loop-i : goal.invariant-loop-i
invariant-loop-i l = record {
  grows : Grows l.fn.b l.b;
  edges : ConstantEdges l.b number (numbers_from 1 l.i) l.edges.items;
}
