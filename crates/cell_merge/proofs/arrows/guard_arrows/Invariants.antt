use Rattle.std.proofs.Common.{take}
use Rattle.sat_formula.specs.Formula.{Grows}
use Rattle.cell_merge.specs.inner.Fronts.{GuardsArrows}
use Rattle.cell_merge.proofs.arrows.guard_arrows.Given as goal

abbrev pub invariant-loop-m : goal.invariant-loop-m
invariant-loop-m l = record {
  grows : Grows l.fn.formula l.formula;
  guards : GuardsArrows l.formula l.l l.arrows (take l.m-index l.arrows) l.fn.out.items l.out.items;
}
