-- The faults of a conjunction or disjunction, by the literals of its operands.
use Rattle.std.specs.Prelude.{◌<◌, ◌≡◌, Bool, List, map, if◌then◌else◌}
use Rattle.std.specs.List.{list_all, list_any}
use Rattle.sat_formula.specs.declared.cnf.Cnf.{Cnf}
use Rattle.sat_formula.specs.declared.lit.Lit.{Lit}
use Rattle.sat_formula.specs.Formula.{Satisfies}
use Rattle.sat_formula.specs.Lit.{lit_value}
use Rattle.tla_values.specs.declared.value.Value.TheVariants as value
use Rattle.tla_meaning.specs.declared.outcome.Outcome.{Outcome}
use Rattle.tla_meaning.specs.declared.place.Place.{Place}
use Rattle.cell_arena.specs.Cells.{Cells as Arena}
use Rattle.outcome_cells.specs.declared.cells.Cells.{Cells}
use Rattle.outcome_cells.specs.declared.cells.Faults.{Faults}
use Rattle.outcome_cells.specs.Shown.{Shown}
use Rattle.outcome_cells.specs.Shows.{FaultsBelow, cell_values}
use Rattle.outcome_cells.specs.Turns.{ShowInTurn, junction}

-- whether all of the literals are true, or whether one is
abbrev pub junction_value : Bool → List Bool → List Lit → Bool
junction_value t a ls = if t then list_all (λ l. lit_value l a) ls else list_any (λ l. lit_value l a) ls

-- under each satisfying assignment they are those of the operands, which have the values of the literals
pub record ShowsTurns (f : Cnf) (t : Bool) (xs : List Cells) (ls : List Lit) (r : Faults) : Type 0 where
  pub below : FaultsBelow f.vars r
  pub shows : (a : List Bool) → Satisfies a f → (c : Arena) (p : Place) (os : List Outcome) →
      cell_values c a xs ≡ map (λ l. value.Bool (lit_value l a)) ls → ShowInTurn t c a xs os →
      Shown (lit_value r.wrong a) (lit_value r.big a) (value.Bool (junction_value t a ls)) (junction t p os)

-- under each satisfying assignment the conjunction or disjunction of the operands, by its faults and a literal
pub record TurnsTo (c : Arena) (f : Cnf) (t : Bool) (xs : List Cells) (r : Faults) (bit : Lit) : Type 0 where
  pub faults : FaultsBelow f.vars r
  pub below : bit.var < f.vars
  pub shows : (a : List Bool) → Satisfies a f → (p : Place) (os : List Outcome) → ShowInTurn t c a xs os →
      Shown (lit_value r.wrong a) (lit_value r.big a) (value.Bool (lit_value bit a)) (junction t p os)
