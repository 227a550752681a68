use Rattle.std.proofs.Common.{◌-◌, drop, length}
use Rattle.sat_formula.specs.Formula.{Grows}
use Rattle.member_choices.specs.Choices.{ListsChoices}
use Rattle.member_choices.proofs.listing.list_choices.Given as goal

abbrev pub invariant-loop-i : goal.invariant-loop-i
invariant-loop-i l = record {
  grows : Grows l.fn.formula l.formula;
  lists : ListsChoices l.arena l.formula (drop (length l.sets - l.i) l.sets) l.choices.items;
}
