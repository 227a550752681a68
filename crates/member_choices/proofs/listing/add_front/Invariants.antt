use Rattle.std.proofs.Common.{take}
use Rattle.sat_formula.specs.Formula.{Grows}
use Rattle.member_choices.specs.inner.Listings.{AddsFront}
use Rattle.member_choices.proofs.listing.add_front.Given as goal

abbrev pub invariant-loop-choice : goal.invariant-loop-choice
invariant-loop-choice l = record {
  grows : Grows l.fn.formula l.formula;
  adds : AddsFront l.formula l.edge (take l.choice-index l.choices) l.choices l.fn.out.items l.out.items;
}
