use Rattle.std.proofs.Common.{take}
use Rattle.sat_formula.specs.Formula.{Grows}
use Rattle.function_rewriter.specs.inner.Listings.{AddsEach}
use Rattle.function_rewriter.proofs.function_sets.add_each.Given as goal

abbrev pub invariant-loop-member : goal.invariant-loop-member
invariant-loop-member l = record {
  grows : Grows l.fn.formula l.formula;
  adds : AddsEach l.formula l.edge (take l.member-index l.members) l.members l.choices l.out.items;
}
