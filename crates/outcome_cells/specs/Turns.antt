-- Operands that are evaluated from the left, up to the first that decides, and the branch that a guard takes
-- (Specifying Systems, section 14.2.2, for the order in which expressions are evaluated; sections 16.1.1 and 16.1.4 for
-- what they mean).
use Rattle.std.specs.Prelude.{◌≡◌, Bool, true, false, List, [], ◌∷◌, if◌then◌else◌}
use Rattle.sat_formula.specs.Formula.{Satisfies}
use Rattle.tla_meaning.specs.declared.outcome.Outcome.{Outcome}
use Rattle.tla_meaning.specs.declared.place.Place.{Place}
use Rattle.tla_meaning.specs.Meaning.{choose, conjoined, disjoined}
use Rattle.tla_meaning.specs.Operators.{yes_no}
use Rattle.cell_arena.specs.declared.build.Build.{Build}
use Rattle.cell_arena.specs.Cells.{Cells as Arena}
use Rattle.cell_merge.specs.Sorts.{Sort, truth}
use Rattle.outcome_cells.specs.declared.cells.Cells.{Cells}
use Rattle.outcome_cells.specs.Shows.{AreCells, Shows}

-- each operand shows its outcome where those before it are this truth value; nothing is said of one that is not
-- evaluated
abbrev pub ShowInTurn : Bool → Arena → List Bool → List Cells → List Outcome → Type 0
ShowInTurn t c a [] [] = Unit {0}
ShowInTurn t c a [] (o ∷ os) = ⊥
ShowInTurn t c a (x ∷ xs) [] = ⊥
ShowInTurn t c a (x ∷ xs) (o ∷ os) = Shows c a x o × (o ≡ yes_no t → ShowInTurn t c a xs os)

-- a conjunction, where TRUE goes on to the next operand, or a disjunction, where FALSE does
abbrev pub junction : Bool → Place → List Outcome → Outcome
junction t p os = if t then conjoined p os else disjoined p os

-- under each satisfying assignment the cells show the conjunction or disjunction of these operands
pub record TakesInTurn (old new : Build) (t : Bool) (xs : List Cells) (r : Cells) : Type 0 where
  pub cells : AreCells new truth r
  pub shows : (a : List Bool) → Satisfies a new.formula → (p : Place) (os : List Outcome) →
      ShowInTurn t old.arena a xs os → Shows new.arena a r (junction t p os)

-- a guard shows its outcome, and each branch where the guard takes it
pub record ShowBranches (c : Arena) (a : List Bool) (guard x y : Cells) (g o q : Outcome) : Type 0 where
  pub guard_shown : Shows c a guard g
  pub first : g ≡ yes_no true → Shows c a x o
  pub second : g ≡ yes_no false → Shows c a y q

-- under each satisfying assignment the cells show the branch that the guard takes; they have each sort that both have
pub record TakesBranch (old new : Build) (guard x y r : Cells) : Type 0 where
  pub cells : (s : Sort) → AreCells old s x → AreCells old s y → AreCells new s r
  pub shows : (a : List Bool) → Satisfies a new.formula → (p : Place) (g o q : Outcome) →
      ShowBranches old.arena a guard x y g o q → Shows new.arena a r (choose p g o q)
