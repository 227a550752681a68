use Rattle.std.proofs.Common.{◌≡◌, ◌++◌, take, drop}
use Rattle.cell_arena.specs.declared.kinds.CellId.{CellId}
use Rattle.typed_cells.specs.FieldOrder.{put_field}
use Rattle.typed_cells.proofs.composites.place_of.Given as goal

abbrev pub invariant-loop-i : goal.invariant-loop-i
invariant-loop-i l =
    (c : CellId) → put_field l.name c l.fields ≡ take l.i l.fields ++ put_field l.name c (drop l.i l.fields)
