-- What an operator on truth values, numbers or sets gives of older cells: its row of the table at their values, and the
-- sort of the cells. Source: Konnov, Kukovec and Tran, "TLA+ Model Checking Made Symbolic", OOPSLA 2019, section 5, for
-- operators over cells; Specifying Systems, sections 16.1.6 and 16.1.7, for sets, and 18.4, for numbers.
use Rattle.std.specs.Prelude.{List, All, map}
use Rattle.tla_meaning.specs.declared.op.Op.{Op}
use Rattle.cell_arena.specs.declared.build.Build.{Build}
use Rattle.cell_arena.specs.declared.kinds.CellId.{CellId}
use Rattle.cell_arena.specs.declared.kinds.CellKind.{CellKind}
use Rattle.cell_arena.specs.Decode.{decode}
use Rattle.cell_merge.specs.Sorts.{Sort, OfSort, function_of, set_of}
use Rattle.outcome_cells.specs.declared.cells.Cells.{Cells}
use Rattle.outcome_cells.specs.Rows.{IsRow}
use Rattle.outcome_cells.specs.Shows.{AreCells}

-- the cells show the row of the operator at the values of these
abbrev pub HasRow : Build → Build → Op → List CellId → Cells → Type 0
HasRow old new o xs r = IsRow new o (λ a. map (decode old.arena a) xs) r

-- cells that all have one sort
pub record OfOneSort (ks : List CellKind) (xs : List CellId) : Type 0 where
  pub sort : Sort
  pub cells : All (OfSort ks sort) xs

-- for each sort s such that all operands have the sort `given s`, the cells have the sort `made s`
pub record HasSorts (old new : Build) (given made : Sort → Sort) (xs : List CellId) (r : Cells) : Type 0 where
  pub cells : (s : Sort) → All (OfSort old.arena.kinds (given s)) xs → AreCells new (made s) r

-- the cells have the sort of a set of functions from the members of the one set to those of the other
pub record HasFunctionSorts (old new : Build) (from to : CellId) (r : Cells) : Type 0 where
  pub cells : (s t : Sort) → OfSort old.arena.kinds (set_of s) from → OfSort old.arena.kinds (set_of t) to →
      AreCells new (set_of (function_of s t)) r
