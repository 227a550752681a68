use Rattle.cell_arena.specs.Growth.{Grows}
use Rattle.function_rewriter.specs.inner.Arrows.{Updates}
use Rattle.function_rewriter.proofs.updating.update_arrows.Given as goal

abbrev pub invariant-loop-i : goal.invariant-loop-i
invariant-loop-i l = record {
  grows : Grows l.fn.b l.b;
  updates : Updates l.fn.b l.b l.f l.tests l.v l.i l.out.items;
}
