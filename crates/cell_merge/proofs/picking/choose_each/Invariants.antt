use Rattle.cell_arena.specs.Growth.{Grows}
use Rattle.cell_merge.specs.inner.Layers.{ChoosesEach}
use Rattle.cell_merge.proofs.picking.choose_each.Given as goal

abbrev pub invariant-loop-i : goal.invariant-loop-i
invariant-loop-i l = record {
  grows : Grows l.fn.b l.b;
  each : ChoosesEach l.fn.b l.b l.l l.edges l.half l.i l.out.items;
}
