-- What stands at an index, and what is put there.
use Rattle.std.specs.Prelude.{◌≡◌, ℕ, Bool, not, ◌&&◌, List, Option, Some, None, IfSome}
use Rattle.sat_formula.specs.declared.cnf.Cnf.{Cnf}
use Rattle.sat_formula.specs.declared.lit.Lit.{Lit}
use Rattle.sat_formula.specs.Formula.{HasValue, Satisfies}
use Rattle.sat_formula.specs.Lit.{lit_value}
use Rattle.tla_values.specs.Sets.{apply, override_at}
use Rattle.tla_values.specs.declared.value.Value.{Value}
use Rattle.tla_values.specs.declared.value.Value.TheVariants as value
use Rattle.cell_arena.specs.declared.build.Build.{Build}
use Rattle.cell_arena.specs.declared.kinds.CellId.{CellId}
use Rattle.cell_arena.specs.declared.kinds.CellKind.{CellKind}
use Rattle.cell_arena.specs.Decode.{decode}
use Rattle.cell_arena.specs.Growth.{Decodes}
use Rattle.cell_merge.specs.Arrows.{pairs_of}
use Rattle.cell_merge.specs.Partial.{Yields}
use Rattle.cell_merge.specs.Sorts.{Sort, OfSort, tuple_of}
use Rattle.outcome_cells.specs.declared.cells.Faults.{Faults}
use Rattle.function_operators.specs.declared.index.Index.{Index}
use Rattle.function_operators.specs.Parts.{HasPart, IsOfPart, index_value}

-- a cell with the literal that says where there is no value; without a cell there is none anywhere
abbrev pub Gives : Build → Option (CellId × Lit) → (List Bool → Option Value) → Type 0
Gives b None value = (a : List Bool) → Satisfies a b.formula → value a ≡ None
Gives b (Some r) value = Yields b r value

-- what the whole has at the index
pub record Finds (old new : Build) (f : CellId) (i : Index) (r : Option (CellId × Lit)) : Type 0 where
  pub gives : Gives new r (λ a. apply (pairs_of (decode old.arena a f)) (index_value old.arena a i))
  pub sort : IfSome r (λ o. IsOfPart old.arena.kinds new.arena.kinds f i o.0)

-- a whole, and a cell of the sort of its part
pub record IndexedAndPart (b : Build) (f : CellId) (i : Index) (v : CellId) : Type 0 where
  pub whole : Sort
  pub part : Sort
  pub is : OfSort b.arena.kinds whole f
  pub at : HasPart b.arena.kinds i whole part
  pub new : OfSort b.arena.kinds part v

-- the whole with another part at the index, where it has one there
pub record Puts (old new : Build) (f : CellId) (i : Index) (v id : CellId) : Type 0 where
  pub value : Decodes new id (λ a. value.Fun (override_at (pairs_of (decode old.arena a f)) (index_value old.arena a i)
      (decode old.arena a v)))
  pub sort : (whole part : Sort) → OfSort old.arena.kinds whole f → HasPart old.arena.kinds i whole part →
      OfSort old.arena.kinds part v → OfSort new.arena.kinds whole id

-- a tuple of some sort
pub record IsTupleCell (ks : List CellKind) (t : CellId) : Type 0 where
  pub count : ℕ
  pub sorts : ℕ → Sort
  pub is : OfSort ks (tuple_of count sorts) t

-- the faults where the literal is false
pub record Masks (f : Cnf) (outside : Lit) (x r : Faults) : Type 0 where
  pub wrong : HasValue f r.wrong (λ a. not (lit_value outside a) && lit_value x.wrong a)
  pub big : HasValue f r.big (λ a. not (lit_value outside a) && lit_value x.big a)
