-- What EXCEPT reads and makes. Source: Specifying Systems, section 16.1.7: [f EXCEPT ![i] = e] is f where i is outside
-- of its domain, and in e the sign @ stands for f[i].
use Rattle.std.specs.Prelude.{◌≡◌, ◌<◌, Bool, true, false, List, [], ◌∷◌, Option, Some, None, IfSome, if◌then◌else◌}
use Rattle.sat_formula.specs.declared.lit.Lit.{Lit}
use Rattle.sat_formula.specs.Lit.{lit_value}
use Rattle.sat_formula.specs.Formula.{Satisfies}
use Rattle.tla_values.specs.declared.value.Value.{Value, out-Value}
use Rattle.tla_meaning.specs.declared.outcome.Outcome.{Outcome}
use Rattle.tla_meaning.specs.declared.place.Place.{Place}
use Rattle.tla_meaning.specs.Meaning.{Reached, At, Outside, NoFunction, step_into, updated}
use Rattle.cell_arena.specs.declared.build.Build.{Build}
use Rattle.cell_arena.specs.declared.kinds.CellId.{CellId}
use Rattle.cell_arena.specs.Cells.{Cells as Arena}
use Rattle.cell_arena.specs.Decode.{decode}
use Rattle.cell_merge.specs.Sorts.{Sort, OfSort}
use Rattle.outcome_cells.specs.declared.cells.Cells.{Cells}
use Rattle.outcome_cells.specs.Shows.{AreCells, Shows}
use Rattle.function_operators.specs.declared.index.Index.{Index}
use Rattle.function_operators.specs.Parts.{HasPart, IsOfPart, index_value}

-- what stands at the index
abbrev pub reach : Arena → List Bool → CellId → Index → Reached
reach c a f i = step_into (out-Value (decode c a f)) (index_value c a i)

-- the cell's value, and nothing where the literal is true; without a cell there is nothing anywhere
abbrev pub reached : Arena → List Bool → Option (CellId × Lit) → Reached
reached c a None = Outside
reached c a (Some r) = if lit_value r.1 a then Outside else At (decode c a r.0)

-- the cell is what stands at the index, of its sort, and the literal says that this is outside of the domain
pub record IsOld (old new : Build) (f : CellId) (i : Index) (r : Option (CellId × Lit)) : Type 0 where
  pub reaches : (a : List Bool) → Satisfies a new.formula → reach old.arena a f i ≡ reached new.arena a r
  pub below : IfSome r (λ o. o.1.var < new.formula.vars)
  pub sort : IfSome r (λ o. IsOfPart old.arena.kinds new.arena.kinds f i o.0)

abbrev pub is_outside : Reached → Bool
is_outside (At v) = false
is_outside Outside = true
is_outside NoFunction = false

-- what is put in the place of the old value, and a literal that says that the index is outside of the domain; without
-- these it is outside everywhere
abbrev pub Change : Type 0
Change = Option (Lit × Cells)

abbrev pub outside_of : List Bool → Change → Bool
outside_of a None = true
outside_of a (Some x) = lit_value x.0 a

-- what is put is there, of the sort of the part
pub record TakesChange (b : Build) (f : CellId) (i : Index) (change : Change) : Type 0 where
  pub whole : Sort
  pub part : Sort
  pub is : OfSort b.arena.kinds whole f
  pub at : HasPart b.arena.kinds i whole part
  pub below : IfSome change (λ x. x.0.var < b.formula.vars)
  pub cells : IfSome change (λ x. AreCells b part x.1)

-- where something stands at the index, the cells show the outcome of the right side at this old value
pub record ShowsChange (c : Arena) (a : List Bool) (f : CellId) (i : Index) (change : Change)
    (right : Value → Outcome) : Type 0 where
  pub outside : outside_of a change ≡ is_outside (reach c a f i)
  pub shows : IfSome change (λ x. (v : Value) → reach c a f i ≡ At v → Shows c a x.1 (right v))

-- under each satisfying assignment the cells show the update, and they have each sort that the whole has
pub record IsUpdate (old new : Build) (f : CellId) (i : Index) (change : Change) (r : Cells) : Type 0 where
  pub shows : (a : List Bool) → Satisfies a new.formula → (p : Place) (right : Value → Outcome) →
      ShowsChange old.arena a f i change right →
      Shows new.arena a r (updated p ((index_value old.arena a i ∷ [], right) ∷ []) (decode old.arena a f))
  pub cells : (whole part : Sort) → OfSort old.arena.kinds whole f → HasPart old.arena.kinds i whole part →
      IfSome change (λ x. OfSort old.arena.kinds part x.1.cell) → AreCells new whole r
