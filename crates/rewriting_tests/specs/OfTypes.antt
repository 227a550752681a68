-- Cells of several types.
use Rattle.std.specs.Prelude.{List, [], ◌∷◌}
use Rattle.cell_arena.specs.declared.kinds.CellId.{CellId}
use Rattle.cell_arena.specs.declared.kinds.CellKind.{CellKind}
use Rattle.snowcat_rows.specs.declared.types.Ty.{Ty}
use Rattle.typed_cells.specs.KindSorts.{OfType}

-- a cell of each of the types
abbrev pub OfTypes : List CellKind → List Ty → List CellId → Type 0
OfTypes ks [] [] = Unit {0}
OfTypes ks [] (x ∷ xs) = ⊥
OfTypes ks (t ∷ ts) [] = ⊥
OfTypes ks (t ∷ ts) (x ∷ xs) = OfType ks t x × OfTypes ks ts xs
