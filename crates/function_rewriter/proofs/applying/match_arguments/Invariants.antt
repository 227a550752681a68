use Rattle.sat_formula.specs.Formula.{Grows}
use Rattle.function_rewriter.specs.inner.Arrows.{Matches}
use Rattle.function_rewriter.proofs.applying.match_arguments.Given as goal

abbrev pub invariant-loop-arrow : goal.invariant-loop-arrow
invariant-loop-arrow l = record {
  grows : Grows l.fn.formula l.formula;
  matches : Matches l.arena l.formula l.arrows l.x l.arrow-index l.tests.items;
}
