-- Operands that are all evaluated: their faults as one, and what comes where there is none. Source: Konnov, Kukovec and
-- Tran, "TLA+ Model Checking Made Symbolic", OOPSLA 2019, section 5, for the cell of an operator over those of its
-- operands; Specifying Systems, section 16.1, for operands that have no value.
use Rattle.std.specs.Prelude.{◌≡◌, Bool, List}
use Rattle.sat_formula.specs.declared.cnf.Cnf.{Cnf}
use Rattle.sat_formula.specs.Formula.{Satisfies}
use Rattle.tla_values.specs.declared.value.Value.{Value}
use Rattle.tla_meaning.specs.declared.outcome.Fault.{Fault}
use Rattle.tla_meaning.specs.declared.outcome.Fault.TheVariants.{NoFault}
use Rattle.tla_meaning.specs.declared.outcome.Outcome.{Outcome}
use Rattle.tla_meaning.specs.Outcomes.{fault_or, join_faults, joined, strict}
use Rattle.cell_arena.specs.Cells.{Cells as Arena}
use Rattle.outcome_cells.specs.declared.cells.Cells.{Cells}
use Rattle.outcome_cells.specs.declared.cells.Faults.{Faults}
use Rattle.outcome_cells.specs.Shows.{AllShow, FaultsBelow, Shows, ShowsFault, cell_values, faults_of}

-- under each satisfying assignment the faults of two that are both evaluated
pub record JoinsTwo (f : Cnf) (x y r : Faults) : Type 0 where
  pub below : FaultsBelow f.vars r
  pub shows : (a : List Bool) → Satisfies a f → (g h : Fault) → ShowsFault a x g → ShowsFault a y h →
      ShowsFault a r (join_faults g h)

-- those of all operands
pub record JoinsOperands (f : Cnf) (xs : List Cells) (r : Faults) : Type 0 where
  pub below : FaultsBelow f.vars r
  pub shows : (a : List Bool) → Satisfies a f → (c : Arena) (os : List Outcome) → AllShow c a xs os →
      ShowsFault a r (joined os)

-- the faults, and where there is none the cells, which need say nothing where there is one
pub record StandsBehind (f : Cnf) (first : Faults) (x r : Cells) : Type 0 where
  pub cell : r.cell ≡ x.cell
  pub below : FaultsBelow f.vars (faults_of r)
  pub shows : (a : List Bool) → Satisfies a f → (c : Arena) (g : Fault) (o : Outcome) → ShowsFault a first g →
      (g ≡ NoFault → Shows c a x o) → Shows c a r (fault_or g o)

-- the faults of the operands, and where there is none what the operator gives of the values of their cells, which is
-- asked of its own cells there alone
pub record IsStrict (f : Cnf) (xs : List Cells) (own r : Cells) : Type 0 where
  pub cell : r.cell ≡ own.cell
  pub below : FaultsBelow f.vars (faults_of r)
  pub shows : (a : List Bool) → Satisfies a f → (c : Arena) (os : List Outcome) (row : List Value → Outcome) →
      AllShow c a xs os → (joined os ≡ NoFault → Shows c a own (row (cell_values c a xs))) →
      Shows c a r (strict os row)
