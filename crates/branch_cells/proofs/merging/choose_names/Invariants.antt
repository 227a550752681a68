use Rattle.cell_arena.specs.Growth.{Grows}
use Rattle.branch_cells.specs.inner.Layers.{AreCellsOfEither}
use Rattle.branch_cells.proofs.merging.choose_names.Given as goal

abbrev pub invariant-loop-i : goal.invariant-loop-i
invariant-loop-i g l = record {
  grows : Grows l.fn.b l.b;
  chosen : AreCellsOfEither l.fn.b l.b l.bit l.xs l.ys l.i l.ids.items;
}
