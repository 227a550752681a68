use Rattle.std.proofs.Common.{take}
use Rattle.sat_formula.specs.Formula.{Grows}
use Rattle.cell_merge.specs.inner.Crosses.{AreImplied}
use Rattle.cell_merge.proofs.crosses.implied.Given as goal

abbrev pub invariant-loop-i : goal.invariant-loop-i
invariant-loop-i l = record {
  grows : Grows l.fn.formula l.formula;
  implied : AreImplied l.formula (take l.i l.xs) (take l.i l.tests) l.all.items;
}
