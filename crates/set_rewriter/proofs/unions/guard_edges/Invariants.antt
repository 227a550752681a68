use Rattle.std.proofs.Common.{take}
use Rattle.sat_formula.specs.Formula.{Grows}
use Rattle.set_rewriter.specs.inner.Steps.{Guards}
use Rattle.set_rewriter.proofs.unions.guard_edges.Given as goal

abbrev pub invariant-loop-m : goal.invariant-loop-m
invariant-loop-m l = record {
  grows : Grows l.fn.formula l.formula;
  guards : Guards l.formula l.l l.edges (take l.m-index l.edges) l.fn.out.items l.out.items;
}
