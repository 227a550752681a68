use Rattle.std.proofs.Common.{take}
use Rattle.sat_formula.specs.Formula.{Grows}
use Rattle.cell_merge.specs.inner.Crosses.{Covers}
use Rattle.cell_merge.proofs.crosses.cover.Given as goal

abbrev pub invariant-loop-i : goal.invariant-loop-i
invariant-loop-i l = record {
  grows : Grows l.fn.formula l.formula;
  covers : Covers l.formula l.l (take l.i l.row) (take l.i l.covered) l.more.items;
}
