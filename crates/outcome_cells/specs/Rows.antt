-- What an operator gives of values, as cells. Source: Konnov, Kukovec and Tran, "TLA+ Model Checking Made Symbolic",
-- OOPSLA 2019, section 5, for an operator over cells; Specifying Systems, chapters 16 and 18, for the operators.
use Rattle.std.specs.Prelude.{Bool, List, Option, Some, None}
use Rattle.sat_formula.specs.Formula.{Satisfies}
use Rattle.tla_values.specs.declared.value.Value.{Value}
use Rattle.tla_meaning.specs.declared.op.Op.{Op}
use Rattle.tla_meaning.specs.declared.outcome.Outcome.{Outcome}
use Rattle.tla_meaning.specs.declared.outcome.Outcome.TheVariants.{Val, Big}
use Rattle.tla_meaning.specs.declared.place.Place.{Place}
use Rattle.tla_meaning.specs.Operators.{table}
use Rattle.cell_arena.specs.declared.build.Build.{Build}
use Rattle.outcome_cells.specs.declared.cells.Cells.{Cells}
use Rattle.outcome_cells.specs.Shows.{Shows}

-- under each satisfying assignment the cells show the outcome, at whichever place the operator stands
pub record ShowsAt (b : Build) (x : Cells) (outcome : List Bool → Place → Outcome) : Type 0 where
  pub shows : (a : List Bool) → Satisfies a b.formula → (p : Place) → Shows b.arena a x (outcome a p)

-- the row of the operator, of values that have no fault
abbrev pub IsRow : Build → Op → (List Bool → List Value) → Cells → Type 0
IsRow b o vs x = ShowsAt b x (λ a p. table (Some b.arena.width) p o (vs a))

-- Big at p where there is none
abbrev pub or_big : Place → Option Value → Outcome
or_big p None = Big p
or_big p (Some v) = Val v
