-- How many members a set has, as Cardinality of the module FiniteSets (Specifying Systems, section
-- 18.2).
use Rattle.std.specs.Prelude.{◌≡◌, Bool, false, not, List, length, ℤ, pos}
use Rattle.sat_formula.specs.declared.lit.Lit.{Lit}
use Rattle.sat_formula.specs.Lit.{lit_value}
use Rattle.sat_formula.specs.Formula.{Satisfies, HasValue}
use Rattle.tla_values.specs.Integers.{fits_width}
use Rattle.tla_values.specs.Sets.{elements}
use Rattle.tla_values.specs.declared.value.Value.TheVariants as value
use Rattle.cell_arena.specs.declared.build.Build.{Build}
use Rattle.cell_arena.specs.declared.kinds.CellId.{CellId}
use Rattle.cell_arena.specs.Cells.{Cells}
use Rattle.cell_arena.specs.Decode.{decode}
use Rattle.cell_merge.specs.Sorts.{OfSort, number}

-- the number of members under an assignment
abbrev pub size : Cells → List Bool → CellId → ℤ
size c a set = pos (length (elements (decode c a set)))

-- the literal says that the number is outside the width, and the cell is the number where it is not
pub record Counts (old new : Build) (set : CellId) (r : CellId × Lit) : Type 0 where
  pub sort : OfSort new.arena.kinds number r.0
  pub outside : HasValue new.formula r.1 (λ a. not (fits_width old.arena.width (size old.arena a set)))
  pub value : (a : List Bool) → Satisfies a new.formula → lit_value r.1 a ≡ false → decode new.arena a r.0 ≡ value.Int (size old.arena a set)
