-- What binds names, over the cells of its bodies at all choices of members (Specifying Systems, sections 16.1.3, 16.1.6
-- and 16.1.7; Konnov, Kukovec and Tran, "TLA+ Model Checking Made Symbolic", OOPSLA 2019, section 5).
use Rattle.std.specs.Prelude.{ℕ, Bool, List, [], ◌∷◌, All, map}
use Rattle.sat_formula.specs.Formula.{Satisfies}
use Rattle.tla_values.specs.declared.value.Value.{Value}
use Rattle.tla_meaning.specs.declared.op.Op.{Op}
use Rattle.tla_meaning.specs.declared.outcome.Outcome.{Outcome}
use Rattle.tla_meaning.specs.declared.place.Place.{Place}
use Rattle.tla_meaning.specs.Meaning.{bound_table}
use Rattle.tla_meaning.specs.Outcomes.{strict}
use Rattle.cell_arena.specs.declared.build.Build.{Build}
use Rattle.cell_arena.specs.declared.kinds.CellId.{CellId}
use Rattle.cell_arena.specs.Decode.{decode}
use Rattle.cell_merge.specs.Sorts.{Sort, function_of, set_of}
use Rattle.outcome_cells.specs.declared.cells.Cells.{Cells}
use Rattle.outcome_cells.specs.Rows.{IsRow}
use Rattle.outcome_cells.specs.Shows.{AreCells, Shows}
use Rattle.typed_cells.specs.FieldOrder.{in_order}
use Rattle.typed_cells.specs.KindSorts.{OfSorts, record_sort, tuple_sort}
use Rattle.member_choices.specs.declared.choice.Choice.{Choice}
use Rattle.member_choices.specs.Choices.{AreChoices, BodiesShow, ChoicesOf}

-- under each satisfying assignment the cells show what the binder gives where the choices are these and the bodies show
-- the body at them: the join of the bodies' faults, and where there is none the row of their values
pub record Binds (old new : Build) (o : Op) (cs : List Choice) (bodies : List Cells) (r : Cells) : Type 0 where
  pub shows : (a : List Bool) → Satisfies a new.formula → (p : Place) (vss : List (List Value))
      (body : List Value → Outcome) → AreChoices a (decode old.arena a) cs vss → BodiesShow old.arena a cs bodies body →
      Shows new.arena a r (strict (map body vss) (bound_table p o vss))

-- the sort of arguments: of one name its own, and of several that of tuples
abbrev pub argument_sort : List Sort → Sort
argument_sort (s ∷ []) = s
argument_sort ss = tuple_sort ss

-- the sort of records of these names, whose fields stand in the order of their bytes
abbrev pub fields_sort : List (List ℕ) → List Sort → Sort
fields_sort names ss = record_sort (in_order names ss)

-- what a binder gives that is a set of the choices' members, which has their sort
pub record MakesPart (old new : Build) (o : Op) (cs : List Choice) (bodies : List Cells) (r : Cells) : Type 0 where
  pub binds : Binds old new o cs bodies r
  pub cells : (s : Sort) → ChoicesOf old.arena.kinds (s ∷ []) cs → AreCells new (set_of s) r

-- the same of a set of the body's values, which has the sort of these
pub record MakesImages (old new : Build) (o : Op) (cs : List Choice) (bodies : List Cells) (r : Cells) : Type 0 where
  pub binds : Binds old new o cs bodies r
  pub cells : (s : Sort) → All (AreCells old s) bodies → AreCells new (set_of s) r

-- the same of a function from the choices to the body's values
pub record MakesFunction (old new : Build) (o : Op) (cs : List Choice) (bodies : List Cells) (r : Cells) : Type 0 where
  pub binds : Binds old new o cs bodies r
  pub cells : (ss : List Sort) (s : Sort) → ChoicesOf old.arena.kinds ss cs → All (AreCells old s) bodies →
      AreCells new (function_of (argument_sort ss) s) r

-- the row of an operator on the values of sets, whose result is a set of a sort that theirs tell
pub record MakesProduct (old new : Build) (o : Op) (made : List Sort → Sort) (sets : List CellId)
    (r : Cells) : Type 0 where
  pub row : IsRow new o (λ a. map (decode old.arena a) sets) r
  pub cells : (ss : List Sort) → OfSorts old.arena.kinds (map set_of ss) sets → AreCells new (set_of (made ss)) r
