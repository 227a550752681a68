use Rattle.std.proofs.Common.{◌≡◌, fold, take}
use Rattle.cell_arena.specs.inner.KindNumbers.{arrows_number}
use Rattle.cell_arena.proofs.hashing.mix_arrows.Given as goal

abbrev pub invariant-loop-edge : goal.invariant-loop-edge
invariant-loop-edge l = l.number ≡ arrows_number l.start (take l.edge-index l.edges)
