-- A cell with the value of one of two.
use Rattle.std.specs.Prelude.{if◌then◌else◌}
use Rattle.sat_formula.specs.declared.lit.Lit.{Lit}
use Rattle.sat_formula.specs.Lit.{lit_value}
use Rattle.cell_arena.specs.declared.build.Build.{Build}
use Rattle.cell_arena.specs.declared.kinds.CellId.{CellId}
use Rattle.cell_arena.specs.Decode.{decode}
use Rattle.cell_arena.specs.Growth.{Decodes}
use Rattle.cell_merge.specs.Sorts.{Sort, OfSort}

-- under each satisfying assignment the cell has the value of x where the literal is true, and else
-- that of y; and it has each sort that both have
pub record Chooses (old new : Build) (l : Lit) (x y id : CellId) : Type 0 where
  pub value : Decodes new id (λ a. if lit_value l a then decode old.arena a x else decode old.arena a y)
  pub sort : (s : Sort) → OfSort old.arena.kinds s x → OfSort old.arena.kinds s y → OfSort new.arena.kinds s id
