use Rattle.std.proofs.Common.{take}
use Rattle.sat_formula.specs.Formula.{Grows}
use Rattle.set_rewriter.specs.inner.Steps.{KeepsEdges}
use Rattle.set_rewriter.proofs.filters.keep_edges.Given as goal

abbrev pub invariant-loop-i : goal.invariant-loop-i
invariant-loop-i l = record {
  grows : Grows l.fn.formula l.formula;
  keeps : KeepsEdges l.formula l.edges (take l.i l.edges) (take l.i l.keep) l.out.items;
}
