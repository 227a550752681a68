use Rattle.std.proofs.Common.{take}
use Rattle.sat_formula.specs.Lit.{values}
use Rattle.sat_formula.specs.Formula.{Grows, HasValue}
use Rattle.cell_merge.specs.inner.Crosses.{any_both}
use Rattle.cell_merge.proofs.crosses.meets.Given as goal

abbrev pub invariant-loop-i : goal.invariant-loop-i
invariant-loop-i l = record {
  grows : Grows l.fn.formula l.formula;
  value : HasValue l.formula l.any (λ a. any_both (values (take l.i l.xs) a) (values (take l.i l.ys) a));
}
