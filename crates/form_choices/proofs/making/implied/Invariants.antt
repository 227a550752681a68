use Rattle.std.proofs.Common.{take}
use Rattle.sat_formula.specs.Formula.{Grows}
use Rattle.form_choices.specs.inner.Parts.{TellWhereThere}
use Rattle.form_choices.proofs.making.implied.Given as goal

abbrev pub invariant-loop-i : goal.invariant-loop-i
invariant-loop-i l = record {
  grows : Grows l.fn.formula l.formula;
  told : TellWhereThere l.formula (take l.i l.edges) (take l.i l.lits) l.out.items;
}
