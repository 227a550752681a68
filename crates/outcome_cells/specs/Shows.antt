-- What cells and literals say of outcomes under an assignment, and which sorts they have. Source: Konnov, Kukovec and
-- Tran, "TLA+ Model Checking Made Symbolic", OOPSLA 2019, section 5, for cells in the place of expressions.
use Rattle.std.specs.Prelude.{ℕ, ◌<◌, Bool, List, [], ◌∷◌, map}
use Rattle.sat_formula.specs.Lit.{lit_value}
use Rattle.tla_values.specs.declared.value.Value.{Value}
use Rattle.tla_meaning.specs.declared.outcome.Fault.{Fault}
use Rattle.tla_meaning.specs.declared.outcome.Outcome.{Outcome}
use Rattle.cell_arena.specs.declared.build.Build.{Build}
use Rattle.cell_arena.specs.Cells.{Cells as Arena}
use Rattle.cell_arena.specs.Decode.{decode}
use Rattle.cell_merge.specs.Sorts.{Sort, OfSort}
use Rattle.outcome_cells.specs.declared.cells.Cells.{Cells}
use Rattle.outcome_cells.specs.declared.cells.Faults.{Faults}
use Rattle.outcome_cells.specs.Shown.{Shown, ShownFault}

-- the literals are true exactly where the outcome is Wrong or Big, and else the cell has the value
pub record Shows (c : Arena) (a : List Bool) (x : Cells) (o : Outcome) : Type 0 where
  pub shown : Shown (lit_value x.wrong a) (lit_value x.big a) (decode c a x.cell) o

-- the literals are true exactly where the fault is Wrong or Big
pub record ShowsFault (a : List Bool) (x : Faults) (f : Fault) : Type 0 where
  pub shown : ShownFault (lit_value x.wrong a) (lit_value x.big a) f

-- one outcome for each of the cells
abbrev pub AllShow : Arena → List Bool → List Cells → List Outcome → Type 0
AllShow c a [] [] = Unit {0}
AllShow c a [] (o ∷ os) = ⊥
AllShow c a (x ∷ xs) [] = ⊥
AllShow c a (x ∷ xs) (o ∷ os) = Shows c a x o × AllShow c a xs os

-- the values that several cells have, which count where there is no fault
abbrev pub cell_values : Arena → List Bool → List Cells → List Value
cell_values c a xs = map (λ x. decode c a x.cell) xs

-- the literals of cells alone
abbrev pub faults_of : Cells → Faults
faults_of x = record { wrong = x.wrong; big = x.big }

-- both literals are of the first n variables
pub record FaultsBelow (n : ℕ) (x : Faults) : Type 0 where
  pub wrong : x.wrong.var < n
  pub big : x.big.var < n

-- the cell is there and of the sort, whatever its literals say, and these are the formula's
pub record AreCells (b : Build) (s : Sort) (x : Cells) : Type 0 where
  pub sort : OfSort b.arena.kinds s x.cell
  pub wrong : x.wrong.var < b.formula.vars
  pub big : x.big.var < b.formula.vars

-- a sort for each of the cells
abbrev pub AllCells : Build → List Sort → List Cells → Type 0
AllCells b [] [] = Unit {0}
AllCells b [] (x ∷ xs) = ⊥
AllCells b (s ∷ ss) [] = ⊥
AllCells b (s ∷ ss) (x ∷ xs) = AreCells b s x × AllCells b ss xs

-- cells of one sort
pub record CellsOfOneSort (b : Build) (x y : Cells) : Type 0 where
  pub sort : Sort
  pub left : AreCells b sort x
  pub right : AreCells b sort y
