use Rattle.std.proofs.Common.{take}
use Rattle.cell_arena.specs.Growth.{Grows}
use Rattle.function_rewriter.specs.inner.Choices.{PicksArrows}
use Rattle.function_rewriter.proofs.picking.pick_arrows.Given as goal

abbrev pub invariant-loop-edge : goal.invariant-loop-edge
invariant-loop-edge l = record {
  grows : Grows l.fn.b l.b;
  picks : PicksArrows l.fn.b l.b (take l.edge-index l.edges) l.set l.arrows.items l.tests.items;
}
