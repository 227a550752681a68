use Rattle.std.proofs.Common.{◌<◌, length}
use Rattle.cell_arena.specs.Growth.{Grows}
use Rattle.cell_merge.specs.inner.Layers.{Narrows}
use Rattle.cell_merge.proofs.picking.narrow.Given as goal

abbrev pub invariant-loop-rest : goal.invariant-loop-rest
invariant-loop-rest l = record {
  grows : Grows l.fn.b l.b;
  some : 0 < length l.rest.items;
  narrows : Narrows l.fn.b l.b l.fn.edges.items l.rest.items;
}

abbrev pub decreases-loop-rest : goal.decreases-loop-rest
decreases-loop-rest l = length l.rest.items
