-- Names that a path leaves out, one by one.
use Rattle.std.specs.Prelude.{◌≡◌, ◌<◌, ℕ, Bool, true, false, List, length, Option, Some, None, slice_index_or}
use Rattle.sat_formula.specs.declared.lit.Lit.{Lit}
use Rattle.sat_formula.specs.Formula.{Satisfies}
use Rattle.sat_formula.specs.Lit.{lit_value}
use Rattle.cell_arena.specs.declared.build.Build.{Build}
use Rattle.cell_arena.specs.declared.kinds.CellId.{CellId}
use Rattle.cell_arena.specs.Decode.{decode}
use Rattle.cell_merge.specs.Sorts.{Sort, OfSort}
use Rattle.path_walks.specs.Paths.{item_at}

-- the item's cell and the other are of the sort, and the literal is the formula's
abbrev pub ItemOfSort : Build → Sort → Option (CellId × Lit) → CellId → Type 0
ItemOfSort b s None other = OfSort b.arena.kinds s other
ItemOfSort b s (Some y) other = OfSort b.arena.kinds s other × (OfSort b.arena.kinds s y.0 × (y.1.var < b.formula.vars))

-- both have one sort
pub record ItemOfOneSort (b : Build) (item : Option (CellId × Lit)) (other : CellId) : Type 0 where
  pub sort : Sort
  pub is : ItemOfSort b sort item other

-- the cell of a name: the other one where it has no item; else it has the value of the item's where that one's literal
-- is true, and, unless the item is sure, of the other where it is false
pub record IsNameFilled (old new : Build) (sure : Bool) (item : Option (CellId × Lit))
    (other id : CellId) : Type 0 where
  pub blank : item ≡ None → id ≡ other
  pub given : (a : List Bool) → Satisfies a new.formula → (y : CellId × Lit) → item ≡ Some y → lit_value y.1 a ≡ true →
      decode new.arena a id ≡ decode new.arena a y.0
  pub rest : sure ≡ false → (a : List Bool) → Satisfies a new.formula → (y : CellId × Lit) → item ≡ Some y →
      lit_value y.1 a ≡ false → decode new.arena a id ≡ decode new.arena a other
  pub sort : (s : Sort) → ItemOfSort old s item other → OfSort new.arena.kinds s id

-- the first i names are filled
pub record AreNamesFilled (old new : Build) (sure : Bool) (items : List (Option (CellId × Lit))) (others : List CellId)
    (i : ℕ) (ids : List CellId) : Type 0 where
  pub count : length ids ≡ i
  pub each : (j : ℕ) (d : CellId) → j < i →
      IsNameFilled old new sure (item_at items j) (slice_index_or others j d) (slice_index_or ids j d)
