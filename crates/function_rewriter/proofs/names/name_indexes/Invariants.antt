use Rattle.std.proofs.Common.{take}
use Rattle.cell_arena.specs.Cells.{kind_at}
use Rattle.function_rewriter.specs.inner.Constants.{AreIndexes, names_of}
use Rattle.function_rewriter.proofs.names.name_indexes.Given as goal

abbrev pub invariant-loop-place : goal.invariant-loop-place
invariant-loop-place l = AreIndexes l.b.arena.texts (take l.place (names_of (kind_at l.b.arena.kinds l.r))) l.indexes.items
