use Rattle.std.proofs.Common.{◌-◌, drop, length}
use Rattle.sat_formula.specs.Formula.{Grows}
use Rattle.function_rewriter.specs.inner.Listings.{IsListing}
use Rattle.function_rewriter.proofs.function_sets.list_choices.Given as goal

abbrev pub invariant-loop-i : goal.invariant-loop-i
invariant-loop-i l = record {
  grows : Grows l.fn.formula l.formula;
  listing : IsListing l.formula (drop (length l.edges - l.i) l.edges) l.edges l.members l.choices.items;
}
