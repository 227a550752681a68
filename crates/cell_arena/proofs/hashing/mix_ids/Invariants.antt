use Rattle.std.proofs.Common.{◌≡◌, fold, take}
use Rattle.cell_arena.specs.inner.KindNumbers.{ids_number}
use Rattle.cell_arena.proofs.hashing.mix_ids.Given as goal

abbrev pub invariant-loop-id : goal.invariant-loop-id
invariant-loop-id l = l.number ≡ ids_number l.start (take l.id-index l.ids)
