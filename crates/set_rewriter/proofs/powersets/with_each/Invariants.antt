use Rattle.cell_arena.specs.Growth.{Grows}
use Rattle.set_rewriter.specs.inner.Steps.{WithEach}
use Rattle.set_rewriter.proofs.powersets.with_each.Given as goal

abbrev pub invariant-loop-cell : goal.invariant-loop-cell
invariant-loop-cell l = record {
  grows : Grows l.fn.b l.b;
  each : WithEach l.fn.b l.b l.edge l.cells l.cell-index l.out.items;
}
