-- Members by free choice.
use Rattle.std.specs.Prelude.{◌≡◌, ◌<◌, Bool, true, List, ◌++◌, length}
use Rattle.sat_formula.specs.declared.lit.Lit.{Lit}
use Rattle.sat_formula.specs.Lit.{lit_value}
use Rattle.sat_formula.specs.Formula.{Satisfies}
use Rattle.tla_values.specs.declared.value.Value.{Value}
use Rattle.tla_values.specs.Sets.{member, elements}
use Rattle.cell_arena.specs.declared.build.Build.{Build}
use Rattle.cell_arena.specs.declared.kinds.CellId.{CellId}
use Rattle.cell_arena.specs.Decode.{decode}
use Rattle.cell_merge.specs.Sorts.{Sort, OfSort, set_of}

-- a set cell of some sort
pub record IsSetCell (b : Build) (id : CellId) : Type 0 where
  pub sort : Sort
  pub is : OfSort b.arena.kinds (set_of sort) id

-- the assignment goes on to one that satisfies the formula, where the literal is true and the cell
-- has the value
pub record Reaches (b : Build) (a : List Bool) (l : Lit) (id : CellId) (v : Value) : Type 0 where
  pub more : List Bool
  pub long : length (a ++ more) ≡ b.formula.vars
  pub satisfies : Satisfies (a ++ more) b.formula
  pub literal : lit_value l (a ++ more) ≡ true
  pub decodes : decode b.arena (a ++ more) id ≡ v

-- where the literal is true the cell has a member as its value, and under some longer assignment it
-- has each
pub record PicksFrom (old new : Build) (set : CellId) (r : CellId × Lit) : Type 0 where
  pub below : r.1.var < new.formula.vars
  pub sort : (s : Sort) → OfSort old.arena.kinds (set_of s) set → OfSort new.arena.kinds s r.0
  pub sound : (a : List Bool) → Satisfies a new.formula → lit_value r.1 a ≡ true →
      member (decode new.arena a r.0) (elements (decode old.arena a set)) ≡ true
  pub complete : (a : List Bool) → length a ≡ old.formula.vars → Satisfies a old.formula → (v : Value) →
      member v (elements (decode old.arena a set)) ≡ true → Reaches new a r.1 r.0 v
