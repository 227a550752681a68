use Rattle.cell_arena.specs.Growth.{Grows}
use Rattle.sequence_rewriter.specs.inner.Domains.{CountsTo}
use Rattle.sequence_rewriter.proofs.domains.counted_edges.Given as goal

abbrev pub invariant-loop-p : goal.invariant-loop-p
invariant-loop-p l = record {
  grows : Grows l.initial.b l.b;
  edges : CountsTo l.b l.bits l.p l.edges.items;
}
