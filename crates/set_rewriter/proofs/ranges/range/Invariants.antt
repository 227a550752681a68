use Rattle.cell_arena.specs.Growth.{Grows}
use Rattle.set_rewriter.specs.inner.Steps.{Candidates}
use Rattle.set_rewriter.proofs.ranges.range.Given as goal

abbrev pub invariant-loop-i : goal.invariant-loop-i
invariant-loop-i l = record {
  grows : Grows l.fn.b l.b;
  candidates : Candidates l.fn.b l.b l.x l.y l.fn.low l.i l.edges.items;
}
