use Rattle.std.proofs.Common.{◌≡◌, fold, take}
use Rattle.cell_arena.specs.inner.KindNumbers.{lits_number}
use Rattle.cell_arena.proofs.hashing.mix_lits.Given as goal

abbrev pub invariant-loop-l : goal.invariant-loop-l
invariant-loop-l l = l.number ≡ lits_number l.start (take l.l-index l.lits)
