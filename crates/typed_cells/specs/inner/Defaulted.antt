-- Cells of several types, each the default of its type.
use Rattle.std.specs.Prelude.{List, [], ◌∷◌}
use Rattle.snowcat_rows.specs.declared.types.Ty.{Ty}
use Rattle.cell_arena.specs.declared.build.Build.{Build}
use Rattle.cell_arena.specs.declared.kinds.CellId.{CellId}
use Rattle.typed_cells.specs.Defaults.{IsDefault}
use Rattle.typed_cells.specs.KindSorts.{OfType}

-- a cell of the type's sort that is its default
pub record IsDefaultCell (b : Build) (t : Ty) (id : CellId) : Type 0 where
  pub cell : OfType b.arena.kinds t id
  pub value : IsDefault b t id

-- one of each of the types
abbrev pub AreDefaults : Build → List Ty → List CellId → Type 0
AreDefaults b [] [] = Unit {0}
AreDefaults b [] (x ∷ xs) = ⊥
AreDefaults b (t ∷ ts) [] = ⊥
AreDefaults b (t ∷ ts) (x ∷ xs) = IsDefaultCell b t x × AreDefaults b ts xs
