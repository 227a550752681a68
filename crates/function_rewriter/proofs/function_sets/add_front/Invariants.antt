use Rattle.std.proofs.Common.{take}
use Rattle.sat_formula.specs.Formula.{Grows}
use Rattle.function_rewriter.specs.inner.Listings.{AddsFront}
use Rattle.function_rewriter.proofs.function_sets.add_front.Given as goal

abbrev pub invariant-loop-choice : goal.invariant-loop-choice
invariant-loop-choice l = record {
  grows : Grows l.fn.formula l.formula;
  adds : AddsFront l.formula l.there l.front (take l.choice-index l.choices) l.choices l.fn.out.items l.out.items;
}
