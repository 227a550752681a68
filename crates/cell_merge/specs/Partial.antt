-- Cells with a literal that says where there is no value.
use Rattle.std.specs.Prelude.{◌≡◌, ◌<◌, Bool, true, false, List, length, Option, Some, None}
use Rattle.sat_formula.specs.declared.lit.Lit.{Lit}
use Rattle.sat_formula.specs.Lit.{lit_value}
use Rattle.sat_formula.specs.Formula.{Satisfies}
use Rattle.tla_values.specs.declared.value.Value.{Value}
use Rattle.cell_arena.specs.declared.build.Build.{Build}
use Rattle.cell_arena.specs.declared.kinds.CellId.{CellId}
use Rattle.cell_arena.specs.Decode.{decode}

-- where there is no value the literal is true, and where there is one it is false and the cell has it
abbrev pub Tells : Bool → Value → Option Value → Type 0
Tells out v None = out ≡ true
Tells out v (Some w) = (out ≡ false) × (v ≡ w)

-- the cell and the literal give the value, where there is one, under each satisfying assignment
pub record Yields (b : Build) (r : CellId × Lit) (value : List Bool → Option Value) : Type 0 where
  pub there : r.0.index < length b.arena.kinds
  pub below : r.1.var < b.formula.vars
  pub tells : (a : List Bool) → Satisfies a b.formula → Tells (lit_value r.1 a) (decode b.arena a r.0) (value a)
