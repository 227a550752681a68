use Rattle.sat_formula.specs.Formula.{Grows}
use Rattle.function_rewriter.specs.inner.Arrows.{AndsEach}
use Rattle.function_rewriter.proofs.applying.and_each.Given as goal

abbrev pub invariant-loop-i : goal.invariant-loop-i
invariant-loop-i l = record {
  grows : Grows l.fn.formula l.formula;
  ands : AndsEach l.formula l.arrows l.tests l.i l.hits.items;
}
