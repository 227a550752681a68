use Rattle.std.proofs.Common.{◌≡◌, fold, take}
use Rattle.cell_arena.specs.inner.KindNumbers.{edges_number}
use Rattle.cell_arena.proofs.hashing.mix_edges.Given as goal

abbrev pub invariant-loop-edge : goal.invariant-loop-edge
invariant-loop-edge l = l.number ≡ edges_number l.start (take l.edge-index l.edges)
