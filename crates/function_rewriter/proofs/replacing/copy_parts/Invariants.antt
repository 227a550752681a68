use Rattle.std.proofs.Common.{◌≡◌, take}
use Rattle.cell_arena.specs.Cells.{kind_at}
use Rattle.cell_merge.specs.Composites.{parts_of}
use Rattle.function_rewriter.proofs.replacing.copy_parts.Given as goal

abbrev pub invariant-loop-place : goal.invariant-loop-place
invariant-loop-place l = l.parts.items ≡ take l.place (parts_of (kind_at l.arena.kinds l.id))
