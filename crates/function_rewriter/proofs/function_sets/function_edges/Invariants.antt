use Rattle.cell_arena.specs.Growth.{Grows}
use Rattle.function_rewriter.specs.inner.Listings.{FunctionEdges}
use Rattle.function_rewriter.proofs.function_sets.function_edges.Given as goal

abbrev pub invariant-loop-choice : goal.invariant-loop-choice
invariant-loop-choice l = record {
  grows : Grows l.fn.b l.b;
  edges : FunctionEdges l.fn.b l.b l.choices l.choice-index l.edges.items;
}
