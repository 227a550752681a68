use Rattle.std.proofs.Common.{◌≡◌, fold, take}
use Rattle.cell_arena.specs.inner.KindNumbers.{text_number}
use Rattle.cell_arena.proofs.hashing.mix_text.Given as goal

abbrev pub invariant-loop-byte : goal.invariant-loop-byte
invariant-loop-byte l = l.number ≡ text_number l.start (take l.byte-index l.bytes)
