use Rattle.std.proofs.Common.{◌≡◌, fold, take}
use Rattle.cell_arena.specs.inner.KindNumbers.{fields_number}
use Rattle.cell_arena.proofs.hashing.mix_fields.Given as goal

abbrev pub invariant-loop-field : goal.invariant-loop-field
invariant-loop-field l = l.number ≡ fields_number l.start (take l.field-index l.fields)
