use Rattle.std.proofs.Common.{take}
use Rattle.sat_formula.specs.Formula.{Grows}
use Rattle.set_rewriter.specs.inner.Steps.{CountsEdges}
use Rattle.set_rewriter.proofs.counting.count_edges.Given as goal

abbrev pub invariant-loop-i : goal.invariant-loop-i
invariant-loop-i l = record {
  grows : Grows l.fn.formula l.formula;
  counts : CountsEdges l.arena l.formula (take l.i l.edges) l.bits.items;
}
