-- Sets of functions (Specifying Systems, section 16.1.7).
use Rattle.std.specs.Prelude.{◌≡◌, ◌<◌, Bool, true, List, [], ◌∷◌, ◌++◌, map, length}
use Rattle.std.specs.List.{zip}
use Rattle.sat_formula.specs.declared.lit.Lit.{Lit}
use Rattle.sat_formula.specs.Lit.{lit_value}
use Rattle.sat_formula.specs.Formula.{Satisfies}
use Rattle.tla_values.specs.Sets.{elements, member, set_of}
use Rattle.tla_values.specs.declared.value.Value.{Value}
use Rattle.tla_values.specs.declared.value.Value.TheVariants as value
use Rattle.cell_arena.specs.declared.build.Build.{Build}
use Rattle.cell_arena.specs.declared.kinds.CellId.{CellId}
use Rattle.cell_arena.specs.Decode.{decode}
use Rattle.cell_arena.specs.Growth.{Decodes}
use Rattle.cell_merge.specs.Picks.{IsSetCell, Reaches}
use Rattle.cell_merge.specs.Sorts.{Sort, OfSort, set_of as set_sort, function_of as function_sort}

-- one of the items in front of one of the lists, in every way
abbrev pub with_each : List Value → List (List Value) → List (List Value)
with_each [] yss = []
with_each (x ∷ xs) yss = map (λ ys. x ∷ ys) yss ++ with_each xs yss

-- one of the second items for each of the first, in every way
abbrev pub each_to : List Value → List Value → List (List Value)
each_to [] ts = [] ∷ []
each_to (x ∷ xs) ts = with_each ts (each_to xs ts)

-- the set of all functions from the first items to the second, as [S -> T]
abbrev pub all_functions : List Value → List Value → Value
all_functions xs ts = value.Set (set_of (map (λ ys. value.Fun (zip xs ys)) (each_to xs ts)))

-- two sets, each of some sort
pub record AreSetCells (b : Build) (from to : CellId) : Type 0 where
  pub domain : IsSetCell b from
  pub range : IsSetCell b to

-- where the literal is true the cell is a function from the one set to the other, and under some longer
-- assignment it is each
pub record PicksFunction (old new : Build) (from to : CellId) (r : CellId × Lit) : Type 0 where
  pub below : r.1.var < new.formula.vars
  pub sort : (s t : Sort) → OfSort old.arena.kinds (set_sort s) from → OfSort old.arena.kinds (set_sort t) to → OfSort new.arena.kinds (function_sort s t) r.0
  pub sound : (a : List Bool) → Satisfies a new.formula → lit_value r.1 a ≡ true →
      member (decode new.arena a r.0) (elements (all_functions (elements (decode old.arena a from)) (elements (decode old.arena a to)))) ≡ true
  pub complete : (a : List Bool) → length a ≡ old.formula.vars → Satisfies a old.formula → (v : Value) →
      member v (elements (all_functions (elements (decode old.arena a from)) (elements (decode old.arena a to)))) ≡ true → Reaches new a r.1 r.0 v

-- the cell is the set of all functions from the one set to the other
pub record IsFunctionSet (old new : Build) (from to id : CellId) : Type 0 where
  pub value : Decodes new id (λ a. all_functions (elements (decode old.arena a from)) (elements (decode old.arena a to)))
  pub sort : (s t : Sort) → OfSort old.arena.kinds (set_sort s) from → OfSort old.arena.kinds (set_sort t) to → OfSort new.arena.kinds (set_sort (function_sort s t)) id
