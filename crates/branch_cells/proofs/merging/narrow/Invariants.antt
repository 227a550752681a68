use Rattle.std.proofs.Common.{◌<◌, All, length}
use Rattle.cell_arena.specs.Growth.{Grows}
use Rattle.branch_cells.specs.Branches.{IsWhole}
use Rattle.branch_cells.specs.inner.Layers.{Narrows}
use Rattle.branch_cells.proofs.merging.narrow.Given as goal

abbrev pub ghost-layer : goal.ghost-layer
ghost-layer g a = g.names

abbrev pub invariant-loop-rest : goal.invariant-loop-rest
invariant-loop-rest g l = record {
  grows : Grows l.fn.b l.b;
  some : 0 < length l.rest.items;
  narrows : Narrows l.fn.b l.b l.fn.parts.items l.rest.items;
  whole : All (IsWhole l.b g.names) l.rest.items;
}

abbrev pub decreases-loop-rest : goal.decreases-loop-rest
decreases-loop-rest g l = length l.rest.items
