use Rattle.cell_arena.specs.Growth.{Grows}
use Rattle.branch_cells.specs.inner.Filling.{AreNamesFilled}
use Rattle.branch_cells.proofs.filling.fill_each.Given as goal

abbrev pub invariant-loop-i : goal.invariant-loop-i
invariant-loop-i l = record {
  grows : Grows l.fn.b l.b;
  filled : AreNamesFilled l.fn.b l.b l.sure l.items l.others l.i l.ids.items;
}
